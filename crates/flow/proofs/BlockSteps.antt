-- The lines of a block one by one: what the rules give, by the next line.
use Rattle.std.proofs.Common.{◌≡◌, refl, sym, ◌∙◌, ap, true, false, List, [], ◌∷◌, ℕ, suc, ◌+◌, ◌-◌, ◌<◌, ◌≤◌, arith, add-one, ltb-false, eqb, ltb, length, get_or, take, drop}
use Rattle.std.proofs.lemmas.List.{drop-drop, drop_all}
use Rattle.lexical.specs.Text.{pick}
use Rattle.lexical.specs.Line.{lineEnding, lineLength}
use Rattle.lexical.proofs.Cases.{split}
use Rattle.lexical.proofs.Ending.{ending-out}
use Rattle.rules.specs.Lines.{Line, line, flagged, linesOf}
use Rattle.rules.specs.Block.{endsBefore, beforeCloser, kindOf, placeOf, extentOf}
use Rattle.rules.specs.Scan.{found, BlockAnswer, foundBlock, noBlock, blockFound, blockOf}
use Rattle.rules.specs.declared.Rules.{Rules}
use Rattle.rules.proofs.Cut.{behind, behind-none, content-length, lead-length, lineFrom, lineTo}
use Rattle.rules.proofs.LineLaws.{contentFrom, first-line, next-lines}
use Rattle.rules.proofs.BlockLaws.{goingOn, closes-at, closes-not, none-left, ended, closed-here, one-on, first-closed, first-goes}
use Rattle.flow.specs.Answer.{kindNumber}
use Rattle.flow.specs.declared.html_flow.Kind.{Kind}
use Rattle.flow.specs.declared.html_flow.Kind.TheVariants.{Raw, Comment, Instruction, Declaration, Cdata, Basic, Complete}
use Rattle.flow.specs.BlockMachine.{continuationStartOf}

-- ---- flags
-- the flags from the next line on
pub next-flags : (s : List ℕ) (n m : ℕ) → m ≡ pick (ltb n (length s)) (suc n) n → drop m s ≡ drop 1 (drop n s)
next-flags s n m e =
    rw e (split (ltb n (length s)) (λ h. rw h (rw (drop-drop 1 n s, add-one))) (λ h. let o = drop_all n s (ltb-false n (length s) h) in rw (h, o)))

-- ---- the next line of an open block, at an index of a text
module _ (ρ : Rules) (k name : ℕ) (s flags : List ℕ) (i n : ℕ) where
  pub no-line : lineEnding (drop i s) ≡ 0 → continuationStartOf ρ k name s flags i n ≡ foundBlock (found k name i false i)
  unfolding continuationStartOf flagged
  no-line e = rw (behind-none s i e) (ap foundBlock (none-left ρ k name i))

  -- the next line as the code reads it: where it begins, its flag and its content
  module _ (from f : ℕ) (content : List ℕ) (a : from ≡ lineFrom s i) (d : content ≡ contentFrom s from) (g : f ≡ get_or (drop n flags) 0 0) (h : from ≡ i → ⊥) where
    abbrev pub lead : List ℕ
    lead = take (lineEnding (drop i s)) (drop i s)

    abbrev pub to : ℕ
    to = from + length content

    abbrev pub next : Line
    next = line f lead content

    abbrev pub rest : List Line
    rest = flagged (drop 1 (drop n flags)) (behind (drop to s))

    content-is : content ≡ contentFrom s (lineFrom s i)
    content-is = d ∙ ap (contentFrom s) a

    pub to-is : to ≡ lineTo s i
    to-is = let m : length content ≡ length (contentFrom s (lineFrom s i)) = ap length content-is in omega (arith, m, a, content-length (drop (lineFrom s i) s))

    pub next-line : flagged (drop n flags) (behind (drop i s)) ≡ next ∷ rest
    next-line =
        next-lines s flags i n (λ e. h (omega (arith, a, e)))
        ∙ ap (λ t. line t lead (contentFrom s (lineFrom s i)) ∷ flagged (drop 1 (drop n flags)) (behind (drop (lineTo s i) s))) (sym g)
        ∙ ap (λ t. line f lead t ∷ flagged (drop 1 (drop n flags)) (behind (drop (lineTo s i) s))) (sym content-is)
        ∙ ap (λ t. next ∷ flagged (drop 1 (drop n flags)) (behind (drop t s))) (sym to-is)

    from-is : i + length lead ≡ from
    from-is = omega (arith, a, lead-length s i)

    goes : continuationStartOf ρ k name s flags i n ≡ foundBlock (goingOn ρ k name i (next ∷ rest))
    unfolding continuationStartOf
    goes = ap (λ ls. foundBlock (goingOn ρ k name i ls)) next-line

    pub line-ends : endsBefore k (line f [] content) ≡ true → continuationStartOf ρ k name s flags i n ≡ foundBlock (found k name i false i)
    line-ends e = goes ∙ ap foundBlock (ended ρ k name i next rest e)

    -- the line does not end the block, and `at` is how many of its bytes stand before the closer
    module _ (e : endsBefore k (line f [] content) ≡ false) (at : ℕ) (b : at ≡ beforeCloser ρ k content) where
      pub line-closes : at < length content → continuationStartOf ρ k name s flags i n ≡ foundBlock (found k name to true (from + at))
      line-closes c =
          goes ∙ ap foundBlock (closed-here ρ k name i next rest e (closes-at ρ k content at b c))
          ∙ ap (λ t. foundBlock (found k name (t + length content) true (t + beforeCloser ρ k content))) from-is ∙ ap (λ t. foundBlock (found k name to true (from + t))) (sym b)

      pub line-on : length content ≤ at → (m : ℕ) → drop m flags ≡ drop 1 (drop n flags) → continuationStartOf ρ k name s flags i n ≡ continuationStartOf ρ k name s flags to m
      unfolding continuationStartOf
      line-on c m r =
          goes ∙ ap foundBlock (one-on ρ k name i next rest e (closes-not ρ k content at b c))
          ∙ ap (λ t. foundBlock (goingOn ρ k name (t + length content) rest)) from-is ∙ ap (λ t. foundBlock (goingOn ρ k name to (flagged t (behind (drop to s))))) (sym r)

  -- the text ends here, or no line ending stands here
  pub text-over : length s ≤ i → continuationStartOf ρ k name s flags i n ≡ foundBlock (found k name i false i)
  text-over h = no-line (ending-out s i h)

  pub same-from : (from : ℕ) → from ≡ lineFrom s i → from ≡ i → continuationStartOf ρ k name s flags i n ≡ foundBlock (found k name i false i)
  same-from from a e = no-line (omega (arith, a, e))

-- the content of a line, by where it ends
pub content-of : (s : List ℕ) (i to : ℕ) (content : List ℕ) → to ≡ i + lineLength (drop i s) → content ≡ take (to - i) (drop i s) → content ≡ contentFrom s i
content-of s i to content b d = let m : to - i ≡ lineLength (drop i s) = omega (arith, b) in d ∙ ap (λ t. take t (drop i s)) m

-- ---- the first line, as the code reads it: where it ends, its flag and its bytes
module _ (ρ : Rules) (s flags : List ℕ) (i n : ℕ) (to f : ℕ) (content : List ℕ)
    (b : to ≡ i + lineLength (drop i s))
    (d : content ≡ take (to - i) (drop i s))
    (g : f ≡ get_or (drop n flags) 0 0) where
  abbrev pub firstLine : Line
  firstLine = line f [] content

  abbrev pub others : List Line
  others = flagged (drop 1 (drop n flags)) (behind (drop to s))

  abbrev pub blockAnswerAt : BlockAnswer
  blockAnswerAt = blockOf ρ i (linesOf (drop n flags) (drop i s))

  first-content : content ≡ contentFrom s i
  first-content = content-of s i to content b d

  pub all-lines : linesOf (drop n flags) (drop i s) ≡ firstLine ∷ others
  all-lines =
      first-line s flags i n
      ∙ ap (λ t. line t [] (contentFrom s i) ∷ flagged (drop 1 (drop n flags)) (behind (drop (i + lineLength (drop i s)) s))) (sym g)
      ∙ ap (λ t. line f [] t ∷ flagged (drop 1 (drop n flags)) (behind (drop (i + lineLength (drop i s)) s))) (sym first-content)
      ∙ ap (λ t. firstLine ∷ flagged (drop 1 (drop n flags)) (behind (drop t s))) (sym b)

  pub stopped : i + length content ≡ to
  stopped = let m : length content ≡ length (contentFrom s i) = ap length first-content in omega (arith, m, b, content-length (drop i s))

  pub no-block : kindOf ρ (line f [] content) ≡ 0 → blockAnswerAt ≡ noBlock
  unfolding blockOf
  no-block e = ap (blockOf ρ i) all-lines ∙ rw e refl

  module _ (k name : ℕ) (e : kindOf ρ (line f [] content) ≡ k) (w : name ≡ placeOf k (line f [] content)) (z : eqb k 0 ≡ false) where
    opened : blockAnswerAt ≡ foundBlock (blockFound ρ k i firstLine others (extentOf ρ k firstLine others))
    unfolding blockOf
    opened = ap (blockOf ρ i) all-lines ∙ rw (e, z)

    -- `at` is how many of its bytes stand before the closer
    module _ (at : ℕ) (h : at ≡ beforeCloser ρ k content) where
      pub first-closes : at < length content → blockAnswerAt ≡ foundBlock (found k name to true (i + at))
      first-closes c =
          opened ∙ ap foundBlock (first-closed ρ k i firstLine others (closes-at ρ k content at h c))
          ∙ ap (λ t. foundBlock (found k t (i + length content) true (i + beforeCloser ρ k content))) (sym w)
          ∙ ap (λ t. foundBlock (found k name t true (i + beforeCloser ρ k content))) stopped ∙ ap (λ t. foundBlock (found k name to true (i + t))) (sym h)

      pub first-on : length content ≤ at → (m : ℕ) → drop m flags ≡ drop 1 (drop n flags) → blockAnswerAt ≡ continuationStartOf ρ k name s flags to m
      unfolding continuationStartOf
      first-on c m r =
          opened ∙ ap foundBlock (first-goes ρ k i firstLine others (closes-not ρ k content at h c))
          ∙ ap (λ t. foundBlock (goingOn ρ k t (i + length content) others)) (sym w)
          ∙ ap (λ t. foundBlock (goingOn ρ k name t others)) stopped ∙ ap (λ t. foundBlock (goingOn ρ k name to (flagged t (behind (drop to s))))) (sym r)

-- every kind has a number
pub has-number : (kind : Kind) → eqb (kindNumber kind) 0 ≡ false
has-number Raw = refl
has-number Comment = refl
has-number Instruction = refl
has-number Declaration = refl
has-number Cdata = refl
has-number Basic = refl
has-number Complete = refl
