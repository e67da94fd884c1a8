-- The pieces of a paragraph from `<` to `<`. Bytes before the next `<` have none; what is found there is the next piece, and the pieces behind it are those from its
-- stop on; where nothing is found, they are those from the next byte on.
use Rattle.std.proofs.Common.{◌≡◌, refl, sym, ◌∙◌, ap, subst, Bool, true, false, ◌&&◌, not, List, [], ◌∷◌, ◌++◌, ℕ, zero, suc, ◌+◌, ◌-◌, ◌<◌, ◌≤◌, arith, eqb, length, get_or, take, drop, length-drop, take-append-drop, drop-drop, length-take-le, eqb-true}
use Rattle.std.proofs.lemmas.List.{drop-drop, drop_all, drop_more}
use Rattle.std.proofs.lemmas.Bool.{and_parts}
use Rattle.std.proofs.Math.Bool.{and-false, and-true}
use borrow.Author.Tests.{not-true}
use Rattle.lexical.specs.Text.{byte, first, pick}
use Rattle.lexical.specs.Name.{all}
use Rattle.lexical.proofs.Cases.{split, clash}
use Rattle.rules.specs.Inline.{Read, takes, lacks, readInline}
use Rattle.rules.specs.Scan.{InlineAnswer, foundInline, noInline, refusedInline, inlineAnswer, inlineAt}
use Rattle.rules.specs.Withhold.{piece, inline, byRead, oddBehind, tried, inlinePieces}
use Rattle.rules.specs.declared.Rules.{Rules}
use Rattle.runs.proofs.Less.{ReadMost, read-most, tried-most}
use Rattle.runs.proofs.Paragraph.{past-other}
use Rattle.walk.specs.Closer.{Known, formOf, isAhead, without}
use Rattle.walk.specs.Remaining.{oddAfter, untried, fromIndex, Took, Lacked, Onward}
use Rattle.walk.specs.declared.closers.Closers.{Closers}
use Rattle.walk.proofs.Ahead.{known-drop, unread, forgone}
use Rattle.walk.proofs.Rest.{read-rest}
use Rattle.walk.proofs.Paragraphs.{noOpen, skip}

-- it stands at `<`, or at the end
untried-stop : (odd : Bool) (s : List ℕ) → eqb (first (drop (untried odd s) s)) (byte "\\") ≡ false
unfolding untried
untried-stop odd [] = refl
untried-stop odd (x ∷ s) =
    split (eqb x (byte "<") && not odd) (λ t. let z = eqb-true x (byte "<") (and_parts (eqb x (byte "<")) (not odd) t).0 in rw (t, z) refl) (λ t. rw t (untried-stop (oddBehind odd x) s))

abbrev stopOf : InlineAnswer → ℕ
stopOf (foundInline stop carry) = stop
stopOf (noInline carry) = 0
stopOf (refusedInline n carry) = 0

abbrev isNone : InlineAnswer → Bool
isNone (foundInline stop carry) = false
isNone (noInline carry) = true
isNone (refusedInline n carry) = false

module _ (ρ : Rules) where
  -- more pieces than bytes are never counted
  enough : (n m i : ℕ) (odd : Bool) (s : List ℕ) → length s ≤ n → length s ≤ m → inlinePieces ρ n i odd s ≡ inlinePieces ρ m i odd s
  unfolding inlinePieces
  enough zero zero i odd s a b = refl
  enough zero (suc m) i odd [] a b = refl
  enough zero (suc m) i odd (x ∷ s) a b = absurd (omega arith)
  enough (suc n) zero i odd [] a b = refl
  enough (suc n) zero i odd (x ∷ s) a b = absurd (omega arith)
  enough (suc n) (suc m) i odd [] a b = refl
  enough (suc n) (suc m) i odd (x ∷ s) a b = by-read (λ j o t l. enough n m j o t l) (tried ρ odd (x ∷ s)) (tried-most ρ odd x s)
    where
      by-read : ((j : ℕ) (o : Bool) (t : List ℕ) → length t ≤ n → length t ≤ m → inlinePieces ρ n j o t ≡ inlinePieces ρ m j o t) → (r : Read) → ReadMost s r
          → byRead r (λ _. inlinePieces ρ n (suc i) (oddBehind odd x) s) (λ t. piece i (i + (length (x ∷ s) - length t)) inline ∷ inlinePieces ρ n (i + (length (x ∷ s) - length t)) false t)
          ≡ byRead r (λ _. inlinePieces ρ m (suc i) (oddBehind odd x) s) (λ t. piece i (i + (length (x ∷ s) - length t)) inline ∷ inlinePieces ρ m (i + (length (x ∷ s) - length t)) false t)
      by-read ih (takes t k) h = ap (λ ps. piece i (i + (length (x ∷ s) - length t)) inline ∷ ps) (ih (i + (length (x ∷ s) - length t)) false t (omega arith) (omega arith))
      by-read ih (lacks k) h = ih (suc i) (oddBehind odd x) s (omega arith) (omega arith)

  -- a byte that is not tried, or is no `<`
  past-untried : (n i : ℕ) (odd : Bool) (x : ℕ) (s : List ℕ) → (eqb x (byte "<") && not odd) ≡ false → inlinePieces ρ (suc n) i odd (x ∷ s) ≡ inlinePieces ρ n (suc i) (oddBehind odd x) s
  unfolding inlinePieces
  past-untried n i true x s e = refl
  past-untried n i false x s e = past-other ρ n i false x s (sym (and-true (eqb x (byte "<"))) ∙ e)

  -- up to the next `<` that is tried
  over-untried : (i : ℕ) (odd : Bool) (s : List ℕ) → inlinePieces ρ (length s) i odd s ≡ inlinePieces ρ (length (drop (untried odd s) s)) (i + untried odd s) false (drop (untried odd s) s)
  unfolding inlinePieces untried
  over-untried i odd [] = refl
  over-untried i odd (x ∷ s) =
      split (eqb x (byte "<") && not odd)
      (λ h. let o : odd ≡ false = not-true odd (and_parts (eqb x (byte "<")) (not odd) h).1 in let z : i + 0 ≡ i = omega arith in rw (h, o, z) refl)
      (λ h.
      let z : suc i + untried (oddBehind odd x) s ≡ i + suc (untried (oddBehind odd x) s) = omega arith in
      rw h (past-untried (length s) i odd x s h ∙ over-untried (suc i) (oddBehind odd x) s ∙ ap (λ n. inlinePieces ρ (length (drop (untried (oddBehind odd x) s) s)) n false (drop (untried (oddBehind odd x) s) s)) z))

  module _ (text : List ℕ) where
    -- at the end
    pub no-pieces : (i : ℕ) → length text ≤ i → fromIndex ρ text i ≡ []
    unfolding inlinePieces
    no-pieces i l = rw (drop_all i text l) refl

    -- over bytes without `<`
    skipped : (i j : ℕ) → all noOpen (take (j - i) (drop i text)) ≡ true → i ≤ j → j ≤ length text
        → fromIndex ρ text i ≡ inlinePieces ρ (length (drop j text)) j (oddAfter false (take (j - i) (drop i text))) (drop j text)
    skipped i j h a b =
        let u = take (j - i) (drop i text) in
        let is : u ++ drop (j - i) (drop i text) ≡ drop i text = take-append-drop (j - i) (drop i text) in
        let m : i + (j - i) ≡ j = omega arith in
        let l : i + length u ≡ j = omega (arith, length-take-le (j - i) (drop i text) (omega (arith, length-drop i text))) in
        let t : drop (j - i) (drop i text) ≡ drop j text = drop-drop (j - i) i text ∙ ap (λ n. drop n text) m in
        ap (λ s. inlinePieces ρ (length s) i false s) (sym is)
        ∙ skip ρ i false u (drop (j - i) (drop i text)) h
        ∙ ap (λ s. inlinePieces ρ (length s) (i + length u) (oddAfter false u) s) t
        ∙ ap (λ n. inlinePieces ρ (length (drop j text)) n (oddAfter false u) (drop j text)) l

    -- to a `<`, and over it where it is not tried
    pub skipped-untried : (i j : ℕ) → all noOpen (take (j - i) (drop i text)) ≡ true → i ≤ j → j < length text → first (drop j text) ≡ byte "<"
        → fromIndex ρ text i ≡ fromIndex ρ text (j + pick (oddAfter false (take (j - i) (drop i text))) 1 0)
    skipped-untried i j h a b e = skipped i j h a (omega arith) ∙ either (oddAfter false (take (j - i) (drop i text)))
      where
        z : get_or text j 0 ≡ byte "<"
        z = sym (ap first (drop_more text j 0 b)) ∙ e

        either : (odd : Bool) → inlinePieces ρ (length (drop j text)) j odd (drop j text) ≡ fromIndex ρ text (j + pick odd 1 0)
        either true =
            let n : suc j ≡ j + 1 = omega arith in
            ap (λ s. inlinePieces ρ (length s) j true s) (drop_more text j 0 b)
            ∙ past-untried (length (drop (j + 1) text)) j true (get_or text j 0) (drop (j + 1) text) (and-false (eqb (get_or text j 0) (byte "<")))
            ∙ ap (λ x. inlinePieces ρ (length (drop (j + 1) text)) (suc j) (oddBehind true x) (drop (j + 1) text)) z
            ∙ ap (λ k. inlinePieces ρ (length (drop (j + 1) text)) k false (drop (j + 1) text)) n
        either false = let n : j ≡ j + 0 = omega arith in ap (fromIndex ρ text) n

    -- up to the next `<` that is tried
    pub next-opening : (i j : ℕ) → j ≡ i + untried false (drop i text) → fromIndex ρ text i ≡ fromIndex ρ text j
    next-opening i j e =
        over-untried i false (drop i text)
        ∙ ap (λ t. inlinePieces ρ (length t) (i + untried false (drop i text)) false t) (drop-drop (untried false (drop i text)) i text)
        ∙ ap (λ n. fromIndex ρ text n) (sym e)

    module _ (i : ℕ) (l : i < length text) where
      abbrev x : ℕ
      x = get_or text i 0

      abbrev s : List ℕ
      s = drop (i + 1) text

      here : drop i text ≡ x ∷ s
      here = drop_more text i 0 l

      unrolled : (r : Read) → readInline ρ 0 (drop i text) ≡ r
          → fromIndex ρ text i ≡ byRead r (λ _. inlinePieces ρ (length s) (suc i) (oddBehind false x) s) (λ t. piece i (i + (length (x ∷ s) - length t)) inline ∷ inlinePieces ρ (length s) (i + (length (x ∷ s) - length t)) false t)
      unfolding inlinePieces
      unrolled r e = ap (λ t. inlinePieces ρ (length t) i false t) here ∙ rw (ap (readInline ρ 0) (sym here) ∙ e) refl

      -- what is found is the next piece
      pub found-piece : (stop : ℕ) → Took ρ text i stop → fromIndex ρ text i ≡ piece i stop inline ∷ fromIndex ρ text stop
      found-piece stop took =
          let at : i + (length (x ∷ s) - length (drop stop text)) ≡ stop = omega (arith, length-drop (i + 1) text, length-drop stop text, took.to, took.from) in
          unrolled (takes (drop stop text) took.carry) took.is
          ∙ ap (λ j. piece i j inline ∷ inlinePieces ρ (length s) j false (drop stop text)) at
          ∙ ap (λ ps. piece i stop inline ∷ ps) (enough (length s) (length (drop stop text)) stop false (drop stop text) (omega (arith, length-drop (i + 1) text, length-drop stop text, took.from)) (omega arith))

      -- where nothing is found, at a byte that is no backslash
      pub no-piece : (c : Closers) → Lacked ρ text i c → eqb (first (drop i text)) (byte "\\") ≡ false → fromIndex ρ text i ≡ fromIndex ρ text (i + 1)
      no-piece c lacked e =
          let z : suc i ≡ i + 1 = omega arith in
          let o : oddBehind false x ≡ false = ap (λ t. eqb (first t) (byte "\\") && true) (sym here) ∙ ap (λ b. b && true) e in
          unrolled (lacks lacked.carry) lacked.is ∙ ap (λ j. inlinePieces ρ (length s) j (oddBehind false x) s) z ∙ ap (λ b. inlinePieces ρ (length s) (i + 1) b s) o

      -- ---- by the answer of the scan
      took-by : (stop carry : ℕ) (r : Read) → readInline ρ 0 (drop i text) ≡ r → foundInline stop carry ≡ inlineAnswer (length text) r → Took ρ text i stop
      took-by stop carry (lacks k) e h = clash true refl (sym (ap isNone h))
      took-by stop carry (takes t k) e h =
          let a : stop ≡ length text - length t = ap stopOf h in
          let most : length t ≤ length s = subst (ReadMost s) (ap (readInline ρ 0) (sym here) ∙ e) (read-most ρ x s) in
          let b : i + (length (drop i text) - length t) ≡ stop = omega (arith, a, length-drop i text, length-drop (i + 1) text, most) in
          record {
            from = omega (arith, a, most, length-drop (i + 1) text);
            to = omega (arith, a);
            carry = k;
            is = e ∙ ap (λ u. takes u k) (read-rest ρ (drop i text) t k e ∙ drop-drop (length (drop i text) - length t) i text ∙ ap (λ n. drop n text) b);
          }

      pub took : (stop carry : ℕ) → foundInline stop carry ≡ inlineAt ρ text i 0 → Took ρ text i stop
      unfolding inlineAt
      took stop carry h = took-by stop carry (readInline ρ 0 (drop i text)) refl h

      lacked-by : (c : Closers) (carry : ℕ) (r : Read) → readInline ρ 0 (drop i text) ≡ r → noInline carry ≡ inlineAnswer (length text) r → Known c (drop i text)
          → Lacked ρ text i (without c (formOf (drop i text)))
      lacked-by c carry (takes t k) e h known = clash true refl (ap isNone h)
      lacked-by c carry (lacks k) e h known =
          record { carry = k; is = e; known = subst (Known (without c (formOf (drop i text)))) (drop-drop 1 i text) (forgone ρ c (drop i text) k known e) }

      pub lacked : (c : Closers) (carry : ℕ) → noInline carry ≡ inlineAt ρ text i 0 → Known c (drop i text) → Lacked ρ text i (without c (formOf (drop i text)))
      unfolding inlineAt
      lacked c carry h known = lacked-by c carry (readInline ρ 0 (drop i text)) refl h known

      -- what is not read would have been none
      pub not-read : (c : Closers) → Known c (drop i text) → isAhead c (formOf (drop i text)) ≡ false → Lacked ρ text i c
      not-read c known h = record { carry = 0; is = unread ρ c (drop i text) known h; known = subst (Known c) (drop-drop 1 i text) (known-drop known 1) }

-- ---- from `<` to `<`: no piece lies between the index and the next `<` that is tried
module _ (ρ : Rules) (text : List ℕ) (index : ℕ) where
  pub record AtOpening (start : ℕ) (c : Closers) : Type 0 where
    pub same : fromIndex ρ text index ≡ fromIndex ρ text start
    pub known : Known c (drop start text)
    pub opens : eqb (first (drop start text)) (byte "\\") ≡ false

  pub to-opening : (i j : ℕ) (c : Closers) → fromIndex ρ text index ≡ fromIndex ρ text i → Known c (drop i text) → j ≡ i + untried false (drop i text) → AtOpening j c
  to-opening i j c e k o =
      let there : drop (untried false (drop i text)) (drop i text) ≡ drop j text = drop-drop (untried false (drop i text)) i text ∙ ap (λ n. drop n text) (sym o) in
      record {
        same = e ∙ next-opening ρ text i j o;
        known = subst (Known c) there (known-drop k (untried false (drop i text)));
        opens = ap (λ t. eqb (first t) (byte "\\")) (sym there) ∙ untried-stop false (drop i text);
      }

  module _ (start : ℕ) (c : Closers) (at : AtOpening start c) (l : start < length text) where
    pub onward : (stop : ℕ) → Took ρ text start stop → Onward ρ text index (record { piece = record { start = start; stop = stop; block = false }; closers = c })
    onward stop t =
        let e : start + (stop - start) ≡ stop = omega (arith, t.from) in
        record {
          no-block = refl;
          is = at.same ∙ found-piece ρ text start l stop t;
          known = subst (Known c) (drop-drop (stop - start) start text ∙ ap (λ n. drop n text) e) (known-drop at.known (stop - start));
        }

    pub past-opening : (d : Closers) → Lacked ρ text start d → (j : ℕ) → j ≡ start + 1 + untried false (drop (start + 1) text) → AtOpening j d
    past-opening d k j o = to-opening (start + 1) j d (at.same ∙ no-piece ρ text start l d k at.opens) k.known o

  pub none-left : (start : ℕ) (c : Closers) → AtOpening start c → length text ≤ start → fromIndex ρ text index ≡ []
  none-left start c at l = at.same ∙ no-pieces ρ text start l

-- ---- the search for `<`, byte by byte
module _ (text : List ℕ) (i : ℕ) (odd : Bool) where
  pub untried-on : i < length text → (eqb (get_or text i 0) (byte "<") && not odd) ≡ false
      → i + untried odd (drop i text) ≡ (i + 1) + untried (oddBehind odd (get_or text i 0)) (drop (i + 1) text)
  unfolding untried
  untried-on l h = rw (drop_more text i 0 l, h) (omega arith)

  pub untried-here : i < length text → (eqb (get_or text i 0) (byte "<") && not odd) ≡ true → untried odd (drop i text) ≡ 0
  unfolding untried
  untried-here l h = rw (drop_more text i 0 l, h) refl

  pub untried-over : length text ≤ i → untried odd (drop i text) ≡ 0
  unfolding untried
  untried-over l = rw (drop_all i text l) refl
