-- The filter from piece to piece: the bytes before the first piece are as they were, then comes what is made of the piece, and then what the other pieces make of
-- the bytes from its stop on. In a piece, tags are replaced up to where its places end that can count, and all else is as it was.
use Rattle.std.proofs.Common.{◌≡◌, refl, sym, ◌∙◌, ap, Bool, true, false, ◌&&◌, List, [], ◌∷◌, ◌++◌, append_assoc, ℕ, zero, suc, ◌+◌, ◌-◌, ◌<◌, ◌≤◌, add-zero, arith, leb, ltb, take, drop, drop-drop, eq-eqb, ne_eqb, le-leb, lt-ltb, le-ltb, ltb-true, ltb-false}
use Rattle.std.proofs.Math.Bool.{and-false}
use borrow.Author.Tests.{lt-leb}
use Rattle.lexical.specs.Text.{bytes}
use Rattle.lexical.proofs.Cases.{split}
use Rattle.rules.specs.Search.{choose}
use Rattle.rules.specs.Withhold.{Which, inline, block, Piece, piece}
use Rattle.rules.specs.Filter.{isDisallowed, countsIn, isCounted, replaced}
use Rattle.runs.proofs.Ordered.{Ordered, none, one-more}
use Rattle.walk.specs.Remaining.{isBlock}
use Rattle.walk.proofs.Replacing.{told}
use Rattle.tagfilter.specs.Part.{replacedPart, countedEnd, pieceBytes}

pub replaced-none : (i : ℕ) (s : List ℕ) → replaced i [] s ≡ s
unfolding replaced isCounted
replaced-none i [] = refl
replaced-none i (x ∷ s) = ap (λ (t : List ℕ). x ∷ t) (replaced-none (suc i) s)

-- ---- the places of a piece that can count
pub end-some : (t : Bool) (a b : ℕ) → a < b → a < countedEnd t a b
end-some true a b l = l
end-some false a b l = omega arith

pub end-to : (t : Bool) (a b : ℕ) → a < b → countedEnd t a b ≤ b
end-to true a b l = omega arith
end-to false a b l = omega arith

counts-is : (w : Which) (i a b : ℕ) → countsIn w i (piece a b w) ≡ (leb a i && ltb i (countedEnd (isBlock w) a b))
counts-is inline i a b =
    split (ltb i a)
    (λ l. let h = ltb-true i a l in rw (ne_eqb i a (λ e. omega (arith, e, h)), lt-leb a i h))
    (λ l.
    let h = ltb-false i a l in
    split (ltb a i)
    (λ m. let g = ltb-true a i m in rw (ne_eqb i a (λ e. omega (arith, e, g)), le-ltb i (a + 1) (omega (arith, g))) (sym (and-false (leb a i))))
    (λ m. let g = ltb-false a i m in rw (eq-eqb i a (omega (arith, h, g)), le-leb a i h, lt-ltb i (a + 1) (omega (arith, g)))))
counts-is (block k c) i a b = refl

module _ (w : Which) (a b : ℕ) where
  abbrev end : ℕ
  end = countedEnd (isBlock w) a b

  counts : (i : ℕ) → a ≤ i → i < end → countsIn w i (piece a b w) ≡ true
  counts i l h = counts-is w i a b ∙ rw (le-leb a i l, lt-ltb i end h)

  not-before : (i : ℕ) → i < a → countsIn w i (piece a b w) ≡ false
  not-before i l = counts-is w i a b ∙ rw (lt-leb a i l)

  not-behind : (i : ℕ) → end ≤ i → countsIn w i (piece a b w) ≡ false
  not-behind i h = counts-is w i a b ∙ rw (le-ltb i end h) (and-false (leb a i))

-- ---- before the pieces
before-none : {lo hi : ℕ} {ps : List Piece} (i : ℕ) → Ordered lo hi ps → i < lo → isCounted i ps ≡ false
unfolding isCounted
before-none i (none h) l = refl
before-none i (one-more {p = p} a b o) l = rw (not-before p.which p.start p.stop i (omega arith), before-none i o (omega arith))

shown-before : {lo hi : ℕ} {ps : List Piece} → Ordered lo hi ps → (n i : ℕ) (s : List ℕ) → i + n ≡ lo → replaced i ps s ≡ take n s ++ replaced lo ps (drop n s)
unfolding replaced
shown-before o zero i s e = rw (sym (add-zero i) ∙ e)
shown-before o (suc n) i [] e = refl
shown-before o (suc n) i (x ∷ s) e = rw (before-none i o (omega arith)) (ap (λ (t : List ℕ). x ∷ t) (shown-before o n (suc i) s (omega arith)))

-- ---- a piece, and what follows
-- one byte of a part
step-append : (b : Bool) (x : ℕ) (y z : List ℕ) → choose b (λ _. bytes "&lt;" ++ (y ++ z)) (λ _. x ∷ (y ++ z)) ≡ choose b (λ _. bytes "&lt;" ++ y) (λ _. x ∷ y) ++ z
step-append true x y z = refl
step-append false x y z = refl

module _ (w : Which) (a b hi : ℕ) (ps : List Piece) (some : a < b) (o : Ordered b hi ps) where
  abbrev here : List Piece
  here = piece a b w ∷ ps

  behind-first : (i : ℕ) (s : List ℕ) → b ≤ i → replaced i here s ≡ replaced i ps s
  unfolding replaced isCounted
  behind-first i [] h = refl
  behind-first i (x ∷ s) h = rw (not-behind w a b i (omega (arith, end-to (isBlock w) a b some)), behind-first (suc i) s (omega arith))

  -- behind the places that can count
  in-rest : (n i : ℕ) (s : List ℕ) → end w a b ≤ i → i + n ≡ b → replaced i here s ≡ take n s ++ replaced b ps (drop n s)
  unfolding replaced isCounted
  in-rest zero i s h e = behind-first i s (omega arith) ∙ ap (λ (j : ℕ). replaced j ps s) (omega arith)
  in-rest (suc n) i [] h e = refl
  in-rest (suc n) i (x ∷ s) h e =
      rw (not-behind w a b i h, before-none i o (omega arith)) (ap (λ (t : List ℕ). x ∷ t) (in-rest n (suc i) s (omega arith) (omega arith)))

  -- among them
  in-part : (n i : ℕ) (s : List ℕ) → a ≤ i → i + n ≡ end w a b → replaced i here s ≡ replacedPart n s ++ replaced (end w a b) here (drop n s)
  unfolding replaced isCounted replacedPart
  in-part zero i s h e = ap (λ (j : ℕ). replaced j here s) (omega (arith, e))
  in-part (suc n) i [] h e = refl
  in-part (suc n) i (x ∷ s) h e =
      rw (counts w a b i h (omega (arith, e)), in-part n (suc i) s (omega arith) (omega (arith, e))) (step-append (isDisallowed (x ∷ s)) x (replacedPart n s) (replaced (end w a b) here (drop n s)))

  -- s is the bulletin from the piece's start on
  pub at-piece : (text : List ℕ) → replaced a here (drop a text) ≡ pieceBytes text (told (piece a b w)) ++ replaced b ps (drop b text)
  at-piece text =
      let c = end w a b in
      let l = end-some (isBlock w) a b some in
      let m = end-to (isBlock w) a b some in
      let f : a + (c - a) ≡ c = omega (arith, l) in
      let g : c + (b - c) ≡ b = omega (arith, m) in
      let d : drop (c - a) (drop a text) ≡ drop c text = drop-drop (c - a) a text ∙ ap (λ (k : ℕ). drop k text) f in
      let r : drop (b - c) (drop c text) ≡ drop b text = drop-drop (b - c) c text ∙ ap (λ (k : ℕ). drop k text) g in
      let part = replacedPart (c - a) (drop a text) in
      let rest = take (b - c) (drop c text) in
      let q : c ≤ c = omega arith in
      in-part (c - a) a (drop a text) (omega arith) f
      ∙ ap (λ (t : List ℕ). part ++ replaced c here t) d
      ∙ ap (λ (t : List ℕ). part ++ t) (in-rest (b - c) c (drop c text) q g ∙ ap (λ (t : List ℕ). rest ++ replaced b ps t) r)
      ∙ sym (append_assoc part rest (replaced b ps (drop b text)))

-- ---- the whole: before the first piece, of it, and from its stop on
pub replaced-next : (text : List ℕ) (from hi : ℕ) (p : Piece) (ps : List Piece) → Ordered from hi (p ∷ ps)
    → replaced from (p ∷ ps) (drop from text)
    ≡ take (p.start - from) (drop from text) ++ (pieceBytes text (told p) ++ replaced p.stop ps (drop p.stop text))
replaced-next text from hi p ps (one-more a b o) =
    let same : p.start ≤ p.start = omega arith in
    let n = p.start - from in
    let e : from + n ≡ p.start = omega arith in
    let here : drop n (drop from text) ≡ drop p.start text = drop-drop n from text ∙ ap (λ (k : ℕ). drop k text) e in
    shown-before (one-more same b o) n from (drop from text) e
    ∙ ap (λ (t : List ℕ). take n (drop from text) ++ replaced p.start (p ∷ ps) t) here
    ∙ ap (λ (t : List ℕ). take n (drop from text) ++ t) (at-piece p.which p.start p.stop hi ps b o text)
