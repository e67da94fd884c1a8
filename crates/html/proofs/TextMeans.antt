-- The run of the machine from its start gives what the rules say of inline raw HTML. A closer `c c >` is found by three states, by how many of its bytes were
-- seen just before; the other states follow the openings byte by byte, and what the other alternatives say of an opening computes to nothing.
use Rattle.std.proofs.Common.{◌≡◌, refl, sym, ◌∙◌, ap, Bool, true, false, List, [], ◌∷◌, ◌++◌, ℕ, suc, ◌+◌, ◌<◌, add-one, arith, eqb, length, drop, drop-cons, eqb-true, eq-eqb, ne_eqb}
use borrow.Author.Tests.{eqb-false}
use Rattle.lexical.specs.Text.{byte, bytes, pick, first}
use Rattle.lexical.specs.Byte.{isLetter}
use Rattle.lexical.specs.Name.{cdataPrefix}
use Rattle.lexical.proofs.Cases.{split}
use Rattle.lexical.proofs.Prefix.{cdata-size, letters-one}
use Rattle.rules.specs.Search.{choose, Left, left, nothing, orElse, throughFirst}
use Rattle.rules.specs.Tag.{inlineTags, openTag, closingTag}
use Rattle.rules.specs.Inline.{comment, instruction, declaration, htmlTag, whole, letters, prefix, lacks, carrying, cdataBody, rawHtml}
use Rattle.rules.specs.declared.Rules.{Rules}
use Rattle.rules.proofs.Comment.{comment-is}
use Rattle.html.specs.TextMachine.{stepOf, runOf, endOf, instructionOf, instructionCloseOf, declarationOf, startOf, openOf, tagCloseStartOf, declarationOpenOf, commentOpenInsideOf, cdataCounted, cdataOpenInsideOf, commentOf, commentCloseOf, commentEndOf, cdataOf, cdataCloseOf, cdataEndOf}
use Rattle.html.specs.declared.tokenizer.StateName.{StateName}
use Rattle.html.specs.declared.tokenizer.StateName.TheVariants.{Start, Open, DeclarationOpen, CommentOpenInside, Comment, CommentClose, CommentEnd, CdataOpenInside, Cdata, CdataClose, CdataEnd, Declaration, Instruction, InstructionClose, TagCloseStart}
use Rattle.html.specs.declared.tokenizer.State.TheVariants.{Next, Ok, Nok}
use Rattle.html.proofs.TextTags.{open-tag-is, close-tag-is}

module _ (ρ : Rules) where
  -- ---- declarations: the first `>`
  declaration-is : (s : List ℕ) (k : ℕ) → runOf ρ Declaration k s ≡ carrying k (throughFirst (bytes ">") s)
  unfolding runOf declarationOf endOf throughFirst
  declaration-is [] k = refl
  declaration-is (x ∷ xs) k = split (eqb x (byte ">")) (λ h. simp h) (λ h. simp h (declaration-is xs k))

  -- ---- instructions: the first `?>`; behind a `?` too
  abbrev Instr : List ℕ → Type 0
  Instr s = (k : ℕ) → runOf ρ Instruction k s ≡ carrying k (throughFirst (bytes "?>") s)

  abbrev InstrClose : List ℕ → Type 0
  InstrClose s = (k : ℕ) → runOf ρ InstructionClose k s ≡ carrying k (throughFirst (bytes "?>") (byte "?" ∷ s))

  instr-step : (x : ℕ) (xs : List ℕ) → Instr xs → InstrClose xs → Instr (x ∷ xs)
  unfolding runOf instructionOf throughFirst
  instr-step x xs a b k = split (eqb x (byte "?")) (λ h. simp h (b k)) (λ h. simp h (a k))

  instr-close-step : (x : ℕ) (xs : List ℕ) → Instr (x ∷ xs) → InstrClose (x ∷ xs)
  unfolding runOf instructionCloseOf endOf throughFirst
  instr-close-step x xs a k = split (eqb x (byte ">")) (λ h. simp h) (λ h. simp h (a k))

  instr-both : (s : List ℕ) → Instr s × InstrClose s
  unfolding runOf throughFirst
  instr-both [] = ((λ k. refl), (λ k. refl))
  instr-both (x ∷ xs) =
      let ih = instr-both xs in
      let a = instr-step x xs ih.0 ih.1 in
      (a, instr-close-step x xs a)

  -- ---- a closer of a byte c twice and `>`: three states, by how many of the bytes were seen just before
  abbrev Seen0 : ℕ → StateName → List ℕ → Type 0
  Seen0 c none s = (k : ℕ) → runOf ρ none k s ≡ carrying k (throughFirst (c ∷ c ∷ byte ">" ∷ []) s)

  abbrev Seen1 : ℕ → StateName → List ℕ → Type 0
  Seen1 c one s = (k : ℕ) → runOf ρ one k s ≡ carrying k (throughFirst (c ∷ c ∷ byte ">" ∷ []) (c ∷ s))

  abbrev Seen2 : ℕ → StateName → List ℕ → Type 0
  Seen2 c two s = (k : ℕ) → runOf ρ two k s ≡ carrying k (throughFirst (c ∷ c ∷ byte ">" ∷ []) (c ∷ c ∷ s))

  module _ (c : ℕ) (none one two : StateName) (same : eqb c c ≡ true)
      (at_none : (k x : ℕ) → stepOf ρ none k x ≡ pick (eqb x c) (Next one k) (Next none k))
      (at_one : (k x : ℕ) → stepOf ρ one k x ≡ pick (eqb x c) (Next two k) (stepOf ρ none k x))
      (at-two : (k x : ℕ) → stepOf ρ two k x ≡ pick (eqb x (byte ">")) Ok (pick (eqb x c) (Next two k) (stepOf ρ none k x))) where
    seen0-step : (x : ℕ) (xs : List ℕ) → Seen0 c none xs → Seen1 c one xs → Seen0 c none (x ∷ xs)
    unfolding runOf throughFirst
    seen0-step x xs a b k = split (eqb x c) (λ h. simp (at_none, h) (simp same at (b k))) (λ h. simp (at_none, h) (a k))

    seen1-step : (x : ℕ) (xs : List ℕ) → Seen0 c none (x ∷ xs) → Seen2 c two xs → Seen1 c one (x ∷ xs)
    unfolding runOf throughFirst
    seen1-step x xs a b k = split (eqb x c) (λ h. simp (at_one, h, same) (simp same at (b k))) (λ h. simp (at_one, h, same) (simp h at (a k)))

    seen2-step : (x : ℕ) (xs : List ℕ) → Seen0 c none (x ∷ xs) → Seen2 c two xs → Seen2 c two (x ∷ xs)
    unfolding runOf throughFirst
    seen2-step x xs a b k =
        split (eqb x (byte ">")) (λ h. simp (at-two, h, same))
        (λ j. split (eqb x c) (λ h. simp (at-two, j, h, same) (simp same at (b k))) (λ h. simp (at-two, j, h, same) (simp h at (a k))))

    seen : (s : List ℕ) → Seen0 c none s × Seen1 c one s × Seen2 c two s
    unfolding runOf throughFirst
    seen [] = ((λ k. refl), (λ k. simp same), (λ k. simp same))
    seen (x ∷ xs) =
        let ih = seen xs in
        let a = seen0-step x xs ih.0 ih.1 in
        (a, seen1-step x xs a ih.2, seen2-step x xs a ih.2)

  comment-end-at : (k x : ℕ) → commentEndOf k x ≡ pick (eqb x (byte ">")) Ok (pick (eqb x (byte "-")) (Next CommentEnd k) (commentOf k x))
  unfolding commentEndOf commentCloseOf endOf
  comment-end-at k x = split (eqb x (byte ">")) (λ h. simp h) (λ j. split (eqb x (byte "-")) (λ h. simp (j, h)) (λ h. simp (j, h)))

  comment-seen : (s : List ℕ) → Seen2 (byte "-") CommentEnd s
  unfolding commentOf commentCloseOf
  comment-seen s = (seen (byte "-") Comment CommentClose CommentEnd refl (λ k x. refl) (λ k x. refl) comment-end-at s).2

  cdata-end-at : (k x : ℕ) → cdataEndOf k x ≡ pick (eqb x (byte ">")) Ok (pick (eqb x (byte "]")) (Next CdataEnd k) (cdataOf k x))
  unfolding cdataEndOf cdataCloseOf endOf
  cdata-end-at k x = split (eqb x (byte ">")) (λ h. simp h) (λ j. split (eqb x (byte "]")) (λ h. simp (j, h)) (λ h. simp (j, h)))

  cdata-seen : (s : List ℕ) → Seen0 (byte "]") Cdata s
  unfolding cdataOf cdataCloseOf
  cdata-seen s = (seen (byte "]") Cdata CdataClose CdataEnd refl (λ k x. refl) (λ k x. refl) cdata-end-at s).0

  -- ---- the prefix `CDATA[`, compared from the carry on
  prefix-at : (k : ℕ) → k < 6 → drop k cdataPrefix ≡ first (drop k cdataPrefix) ∷ drop (suc k) cdataPrefix
  prefix-at k h =
      let l : k < length cdataPrefix = omega (arith, cdata-size) in
      let e = drop-cons cdataPrefix k 0 l in
      e ∙ ap (λ b. b ∷ drop (suc k) cdataPrefix) (sym (ap first e))

  prefix-done : drop 6 cdataPrefix ≡ []
  unfolding cdataPrefix
  prefix-done = refl

  -- a byte of the prefix, and what is left of it
  prefix-in : (k p x : ℕ) (ps xs : List ℕ) → prefix k (p ∷ ps) (x ∷ xs) ≡ choose (eqb x p) (λ _. prefix (suc k) ps xs) (λ _. letters k)
  unfolding prefix
  prefix-in k p x ps xs = refl

  prefix-out : (k p : ℕ) (ps : List ℕ) → prefix k (p ∷ ps) [] ≡ letters k
  unfolding prefix
  prefix-out k p ps = refl

  prefix-all : (k : ℕ) (s : List ℕ) → prefix k [] s ≡ whole s
  unfolding prefix
  prefix-all k s = refl

  -- the state's byte is that one, or is not
  opened-at : (k x : ℕ) → k < 6 → (t : Bool) → eqb x (first (drop k cdataPrefix)) ≡ t → cdataOpenInsideOf k x ≡ cdataCounted k (pick t (k + 1) k)
  unfolding cdataOpenInsideOf
  opened-at k x h t e = ap (cdataCounted k) (letters-one k x h ∙ ap (λ b. pick b (k + 1) k) e)

  counted-more : (k : ℕ) → cdataCounted k (k + 1) ≡ pick (eqb (k + 1) 6) (Next Cdata 0) (Next CdataOpenInside (k + 1))
  counted-more k = rw (ne_eqb (k + 1) k (λ z. omega arith))

  counted-none : (k : ℕ) → cdataCounted k k ≡ Nok
  counted-none k = rw (eq-eqb k k refl)

  cdata-open-is : (s : List ℕ) (k : ℕ) → k < 6 → runOf ρ CdataOpenInside k s ≡ cdataBody (prefix k (drop k cdataPrefix) s)
  unfolding runOf
  cdata-open-is [] k h = rw (prefix-at k h, prefix-out)
  cdata-open-is (x ∷ xs) k h =
      rw (prefix-at k h, prefix-in) (split (eqb x (first (drop k cdataPrefix)))
      (λ e. rw (opened-at k x h true e, counted-more k, e) (split (eqb (k + 1) 6)
      (λ l. let five : suc k ≡ 6 = omega (arith, eqb-true (k + 1) 6 l) in rw (l, five, prefix-done, prefix-all) (cdata-seen xs 0))
      (λ l. let less : k + 1 < 6 = omega (arith, eqb-false (k + 1) 6 l) in rw (l, ← add-one k) (cdata-open-is xs (k + 1) less))))
      (λ e. rw (opened-at k x h false e, counted-none k, e)))

  cdata-is : (s : List ℕ) (k : ℕ) → k < 6 → runOf ρ CdataOpenInside k s ≡ rawHtml ρ k (bytes "<![" ++ s)
  unfolding rawHtml
  cdata-is s k h = cdata-open-is s k h

  -- ---- texts that end in an opening, or do not begin one
  cut-short : (k : ℕ) → (rawHtml ρ k [] ≡ lacks k) × (rawHtml ρ k (bytes "<") ≡ lacks k) × (rawHtml ρ k (bytes "<!") ≡ lacks k)
  unfolding rawHtml htmlTag openTag closingTag comment instruction declaration
  cut-short k = (refl, refl, refl)

  pub not-opened : (k x : ℕ) (xs : List ℕ) → eqb x (byte "<") ≡ false → rawHtml ρ k (x ∷ xs) ≡ lacks k
  unfolding rawHtml htmlTag openTag closingTag comment instruction declaration
  not-opened k x xs e = simp e

  -- ---- openings: the other alternatives compute to nothing
  or-nothing : (l : Left) → orElse l (λ _. nothing) ≡ l
  or-nothing (left s) = refl
  or-nothing nothing = refl

  -- behind `<!-`
  pub comment-tag : (s : List ℕ) → htmlTag ρ (bytes "<!-" ++ s) ≡ comment (bytes "<!-" ++ s)
  unfolding htmlTag openTag closingTag instruction declaration
  comment-tag s = or-nothing (comment (bytes "<!-" ++ s))

  comment-open-is : (s : List ℕ) (k : ℕ) → runOf ρ CommentOpenInside k s ≡ rawHtml ρ k (bytes "<!-" ++ s)
  unfolding runOf commentOpenInsideOf rawHtml
  comment-open-is [] k = rw (comment-tag [], comment-is)
  comment-open-is (x ∷ xs) k =
      rw (comment-tag (x ∷ xs), comment-is)
      (split (eqb x (byte "-")) (λ e. rw (eqb-true x (byte "-") e) (comment-seen xs k)) (λ e. simp e))

  -- behind `<!` and a byte that is neither `-` nor `[`
  pub declaration-tag : (k x : ℕ) (xs : List ℕ) → eqb x (byte "-") ≡ false → eqb x (byte "[") ≡ false
      → rawHtml ρ k (bytes "<!" ++ (x ∷ xs)) ≡ carrying k (choose (isLetter x) (λ _. throughFirst (bytes ">") xs) (λ _. nothing))
  unfolding rawHtml htmlTag openTag closingTag instruction declaration
  declaration-tag k x xs e f = rw (comment-is, e, f)

  declaration-open-is : (s : List ℕ) (k : ℕ) → k < 6 → runOf ρ DeclarationOpen k s ≡ rawHtml ρ k (bytes "<!" ++ s)
  unfolding runOf declarationOpenOf
  declaration-open-is [] k h = sym (cut-short k).2
  declaration-open-is (x ∷ xs) k h =
      split (eqb x (byte "-")) (λ e. rw (eqb-true x (byte "-") e) (comment-open-is xs k))
      (λ e. split (eqb x (byte "[")) (λ f. rw (eqb-true x (byte "[") f) (cdata-is xs k h))
      (λ f. rw (declaration-tag k x xs e f, e, f) (split (isLetter x) (λ l. simp l (declaration-is xs k)) (λ l. simp l))))

  -- behind `</`
  close-tag : (k : ℕ) (s : List ℕ) → rawHtml ρ k (bytes "</" ++ s) ≡ carrying k (closingTag (bytes "</" ++ s))
  unfolding rawHtml htmlTag openTag instruction declaration
  close-tag k s = rw comment-is (ap (carrying k) (or-nothing (closingTag (bytes "</" ++ s))))

  close-start-is : (s : List ℕ) (k : ℕ) → runOf ρ TagCloseStart k s ≡ rawHtml ρ k (bytes "</" ++ s)
  unfolding runOf tagCloseStartOf closingTag
  close-start-is [] k = rw close-tag
  close-start-is (x ∷ xs) k = rw close-tag (split (isLetter x) (λ e. simp e (close-tag-is ρ k xs)) (λ e. simp e))

  -- behind `<?`
  pub instruction-tag : (k : ℕ) (s : List ℕ) → rawHtml ρ k (bytes "<?" ++ s) ≡ carrying k (throughFirst (bytes "?>") s)
  unfolding rawHtml htmlTag openTag closingTag instruction declaration
  instruction-tag k s = rw comment-is (ap (carrying k) (or-nothing (throughFirst (bytes "?>") s)))

  -- behind `<` and any other byte
  open-tag : (k x : ℕ) (xs : List ℕ) → eqb x (byte "!") ≡ false → eqb x (byte "/") ≡ false → eqb x (byte "?") ≡ false
      → rawHtml ρ k (byte "<" ∷ x ∷ xs) ≡ carrying k (openTag (inlineTags ρ) (byte "<" ∷ x ∷ xs))
  unfolding rawHtml htmlTag closingTag instruction declaration
  open-tag k x xs e f g = rw (comment-is, e, f, g) (ap (carrying k) (or-nothing (openTag (inlineTags ρ) (byte "<" ∷ x ∷ xs))))

  open-is : (s : List ℕ) (k : ℕ) → k < 6 → runOf ρ Open k s ≡ rawHtml ρ k (byte "<" ∷ s)
  unfolding runOf openOf openTag
  open-is [] k h = sym (cut-short k).1
  open-is (x ∷ xs) k h =
      split (eqb x (byte "!")) (λ e. rw (eqb-true x (byte "!") e) (declaration-open-is xs k h))
      (λ e. split (eqb x (byte "/")) (λ f. rw (eqb-true x (byte "/") f) (close-start-is xs k))
      (λ f. split (eqb x (byte "?")) (λ g. rw (eqb-true x (byte "?") g, instruction-tag) ((instr-both xs).0 k))
      (λ g. rw (open-tag k x xs e f g, e, f, g) (split (isLetter x) (λ l. simp l (open-tag-is ρ k (suc (suc (length xs))) xs (omega arith))) (λ l. simp l)))))

  pub start-is : (s : List ℕ) (k : ℕ) → k < 6 → runOf ρ Start k s ≡ rawHtml ρ k s
  unfolding runOf startOf
  start-is [] k h = sym (cut-short k).0
  start-is (x ∷ xs) k h = split (eqb x (byte "<")) (λ e. rw (eqb-true x (byte "<") e) (open-is xs k h)) (λ e. rw (not-opened k x xs e, e))
