-- Inline reading leaves less than there was: the first byte is always taken, and no part of the grammar gives back more than it was given.
use Rattle.std.proofs.Common.{Bool, true, false, ◌&&◌, not, List, [], ◌∷◌, ℕ, zero, suc, ◌≤◌, arith, eqb, length, drop, length-drop}
use Rattle.lexical.specs.Text.{byte, bytes, first}
use Rattle.lexical.specs.Byte.{isLetter, isWhitespace, isTagNameByte, isAttributeNameByte, isQuote, isValueExcluded}
use Rattle.lexical.specs.Name.{cdataPrefix}
use Rattle.lexical.proofs.Cases.{split}
use Rattle.rules.specs.Search.{choose, begins, past, Left, left, nothing, orElse, exactly, throughFirst}
use Rattle.rules.specs.Tag.{Grammar, inlineTags, tagEnd, pastQuote, specification, startsName, pastUnquoted, value, values, attribute, attributes, openTag, closingTag}
use Rattle.rules.specs.Inline.{comment, instruction, declaration, htmlTag, prefix, Read, takes, lacks, carrying, cdataBody, rawHtml, keeping, readInline}
use Rattle.rules.specs.Withhold.{tried}
use Rattle.rules.specs.declared.Rules.{Rules}
use Rattle.rules.proofs.Comment.{comment-is}
use Rattle.rules.proofs.Past.{past-length}
use Rattle.runs.proofs.Alike.{AtMost}
use Rattle.runs.proofs.Tags.{unquoted-length}
use Rattle.runs.proofs.InlineReads.{most-trans, through-most}

choose-most : (b : Bool) (s : List ℕ) (x y : Left) → AtMost s x → AtMost s y → AtMost s (choose b (λ _. x) (λ _. y))
choose-most true s x y h k = h
choose-most false s x y h k = k

or-most : (s : List ℕ) (x y : Left) → AtMost s x → AtMost s y → AtMost s (orElse x (λ _. y))
or-most s (left t) y h k = h
or-most s nothing y h k = k

exactly-most : (p s : List ℕ) → AtMost s (exactly p s)
exactly-most p s = choose-most (begins p s) s (left (drop (length p) s)) nothing (omega (arith, length-drop (length p) s)) tt

end-most : (s : List ℕ) → AtMost s (tagEnd s)
unfolding tagEnd
end-most s = or-most s (exactly (bytes ">") s) (exactly (bytes "/>") s) (exactly-most (bytes ">") s) (exactly-most (bytes "/>") s)

module _ (g : Grammar) where
  module _ (more : List ℕ → Left) (most : (s : List ℕ) → AtMost s (more s)) where
    quote-most : (s : List ℕ) → AtMost s (pastQuote more s)
    quote-most [] = tt
    quote-most (x ∷ s) = most-trans (x ∷ s) s (more s) (omega arith) (most s)

    specification-most : (v : List ℕ → Left) → ((s : List ℕ) → AtMost s (v s)) → (s : List ℕ) → AtMost s (specification more v s)
    specification-most v k s =
        let t = past isWhitespace (drop 1 (past isWhitespace s)) in
        let l : length t ≤ length s = omega (arith, past-length isWhitespace (drop 1 (past isWhitespace s)), length-drop 1 (past isWhitespace s), past-length isWhitespace s) in
        choose-most (begins (bytes "=") (past isWhitespace s)) s (v t) (more s) (most-trans s t (v t) l (k t)) (most s)

    value-most : (v : List ℕ → Left) → ((s : List ℕ) → AtMost s (v s)) → (s : List ℕ) → AtMost s (value g more v s)
    value-most v k [] = tt
    value-most v k (x ∷ s) =
        let t = past (λ b. not (eqb b x)) s in
        let l : length t ≤ length (x ∷ s) = omega (arith, past-length (λ b. not (eqb b x)) s) in
        let u = pastUnquoted g x s in
        choose-most (isQuote x) (x ∷ s) (pastQuote more t) _ (most-trans (x ∷ s) t (pastQuote more t) l (quote-most t))
        (choose-most (isValueExcluded x) (x ∷ s) nothing _ tt
        (choose-most g.further (x ∷ s) (specification more v u) (more u) (most-trans (x ∷ s) u (specification more v u) (unquoted-length g x s) (specification-most v k u)) (most-trans (x ∷ s) u (more u) (unquoted-length g x s) (most u))))

    values-most : (n : ℕ) (s : List ℕ) → AtMost s (values g more n s)
    unfolding values
    values-most zero s = tt
    values-most (suc n) s = value-most (values g more n) (values-most n) s

    attribute-most : (s : List ℕ) → AtMost s (attribute g more s)
    attribute-most s =
        let t = past isAttributeNameByte s in
        most-trans s t (attribute g more s) (past-length isAttributeNameByte s) (specification-most (values g more (length s)) (values-most (length s)) t)

  attributes-most : (n : ℕ) (s : List ℕ) → AtMost s (attributes g n s)
  unfolding attributes
  attributes-most zero s = tt
  attributes-most (suc n) s =
      let t = past isWhitespace s in
      let l = past-length isWhitespace s in
      choose-most (isWhitespace (first s) && startsName g (first t)) s (attribute g (attributes g n) (drop 1 t)) (tagEnd t)
      (most-trans s (drop 1 t) (attribute g (attributes g n) (drop 1 t)) (omega (arith, length-drop 1 t)) (attribute-most (attributes g n) (attributes-most n) (drop 1 t)))
      (most-trans s t (tagEnd t) l (end-most t))

  open-most : (x : ℕ) (s : List ℕ) → AtMost s (openTag g (x ∷ s))
  unfolding openTag
  open-most x s =
      let t = past isTagNameByte (drop 1 s) in
      choose-most ((eqb x (byte "<") && true) && isLetter (first s)) s (attributes g (length (x ∷ s)) t) nothing
      (most-trans s t (attributes g (length (x ∷ s)) t) (omega (arith, past-length isTagNameByte (drop 1 s), length-drop 1 s)) (attributes-most (length (x ∷ s)) t)) tt

close-most : (x : ℕ) (s : List ℕ) → AtMost s (closingTag (x ∷ s))
unfolding closingTag
close-most x s =
    let t = past isWhitespace (past isTagNameByte (drop 2 s)) in
    choose-most (begins (bytes "</") (x ∷ s) && isLetter (first (drop 1 s))) s (exactly (bytes ">") t) nothing
    (most-trans s t (exactly (bytes ">") t) (omega (arith, past-length isWhitespace (past isTagNameByte (drop 2 s)), past-length isTagNameByte (drop 2 s), length-drop 2 s)) (exactly-most (bytes ">") t)) tt

-- behind a closer, with n bytes more of an opening taken
searched-most : (p s : List ℕ) (n : ℕ) → AtMost s (throughFirst p (drop n s))
searched-most p s n = most-trans s (drop n s) (throughFirst p (drop n s)) (omega (arith, length-drop n s)) (through-most p (drop n s))

comment-most : (x : ℕ) (s : List ℕ) → AtMost s (comment (x ∷ s))
comment-most x s =
    rw (comment-is (x ∷ s)) (choose-most (begins (bytes "<!--") (x ∷ s)) s (throughFirst (bytes "-->") (drop 1 s)) nothing (searched-most (bytes "-->") s 1) tt)

instruction-most : (x : ℕ) (s : List ℕ) → AtMost s (instruction (x ∷ s))
unfolding instruction
instruction-most x s = choose-most (begins (bytes "<?") (x ∷ s)) s (throughFirst (bytes "?>") (drop 1 s)) nothing (searched-most (bytes "?>") s 1) tt

declaration-most : (x : ℕ) (s : List ℕ) → AtMost s (declaration (x ∷ s))
unfolding declaration
declaration-most x s =
    choose-most (begins (bytes "<!") (x ∷ s) && isLetter (first (drop 1 s))) s (throughFirst (bytes ">") (drop 2 s)) nothing (searched-most (bytes ">") s 2) tt

tag-most : (ρ : Rules) (x : ℕ) (s : List ℕ) → AtMost s (htmlTag ρ (x ∷ s))
unfolding htmlTag
tag-most ρ x s =
    or-most s (openTag (inlineTags ρ) (x ∷ s)) _ (open-most (inlineTags ρ) x s)
    (or-most s (closingTag (x ∷ s)) _ (close-most x s)
    (or-most s (comment (x ∷ s)) _ (comment-most x s) (or-most s (instruction (x ∷ s)) (declaration (x ∷ s)) (instruction-most x s) (declaration-most x s))))

-- ---- the whole
abbrev pub ReadMost : List ℕ → Read → Type 0
ReadMost q (takes s k) = length s ≤ length q
ReadMost q (lacks k) = Unit {0}

carried-most : (k : ℕ) (q : List ℕ) (a : Left) → AtMost q a → ReadMost q (carrying k a)
carried-most k q (left s) h = h
carried-most k q nothing h = tt

kept-most : (k : ℕ) (q : List ℕ) (a : Read) → ReadMost q a → ReadMost q (keeping k a)
kept-most k q (takes s c) h = h
kept-most k q (lacks c) h = tt

-- a prefix that is there leaves no more than there was
prefix-most : (k : ℕ) (p q s : List ℕ) → length s ≤ length q → ReadMost q (cdataBody (prefix k p s))
unfolding prefix
prefix-most k [] q s l = carried-most 0 q (throughFirst (bytes "]]>") s) (most-trans q s (throughFirst (bytes "]]>") s) l (through-most (bytes "]]>") s))
prefix-most k (c ∷ p) q [] l = tt
prefix-most k (c ∷ p) q (x ∷ s) l = split (eqb x c) (λ h. rw h (prefix-most (suc k) p q s (omega arith))) (λ h. rw h tt)

raw-most : (ρ : Rules) (x : ℕ) (s : List ℕ) → ReadMost s (rawHtml ρ 0 (x ∷ s))
unfolding rawHtml
raw-most ρ x s =
    split (begins (bytes "<![") (x ∷ s)) (λ h. rw h (prefix-most 0 cdataPrefix s (drop 2 s) (omega (arith, length-drop 2 s))))
    (λ h. rw h (carried-most 0 s (htmlTag ρ (x ∷ s)) (tag-most ρ x s)))

pub read-most : (ρ : Rules) (x : ℕ) (s : List ℕ) → ReadMost s (readInline ρ 0 (x ∷ s))
unfolding readInline
read-most ρ x s = either ρ.t2
  where
    either : (t2 : Bool) → ReadMost s (choose t2 (λ _. rawHtml ρ 0 (x ∷ s)) (λ _. keeping 0 (rawHtml ρ 0 (x ∷ s))))
    either true = raw-most ρ x s
    either false = kept-most 0 s (rawHtml ρ 0 (x ∷ s)) (raw-most ρ x s)

pub tried-most : (ρ : Rules) (odd : Bool) (x : ℕ) (s : List ℕ) → ReadMost s (tried ρ odd (x ∷ s))
tried-most ρ true x s = tt
tried-most ρ false x s = read-most ρ x s
