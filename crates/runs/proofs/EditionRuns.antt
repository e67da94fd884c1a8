-- Privacy, of several private pieces. They are put in one after the other from the left, and each step is a pair of runs that differ in one piece. Where the pieces of
-- two bulletins correspond, a piece of the one holds what stands behind the private bytes where the piece that corresponds does so in the other; so what run one
-- withholds, each bulletin on the way withholds too, though some of them would be refused for their length.
use Rattle.std.proofs.Common.{◌≡◌, refl, sym, ◌∙◌, ap, Bool, true, false, ◌&&◌, List, [], ◌∷◌, ◌++◌, append-nil, append_assoc, ℕ, ◌+◌, ◌<◌, add-zero, arith, eqb, ltb, length, length-append, eqb-true, eq-eqb, ltb-true, ltb-false}
use Rattle.std.proofs.Math.Nat.{add_assoc}
use Rattle.std.proofs.lemmas.Bool.{and_parts}
use Rattle.lexical.specs.Text.{byte}
use Rattle.lexical.specs.Name.{all}
use Rattle.lexical.proofs.Cases.{split, clash}
use Rattle.rules.specs.Withhold.{Piece, pieces}
use Rattle.rules.specs.Private.{isPrivate, any, Form, comment, instruction, declaration, cdata, closer, opening, around, spans, holdsBody, linesText, encloses, holdsLines, InlineSwap, LinesSwap, WithheldLines, Swap, in-line, in-block, SameRuns}
use Rattle.rules.specs.Edition.{Passage, kept, bodies, wholeLines, inOne, inTwo, text, keepsPrivate, endsInLineFeed, withholds, withholdsAll, Edition, EditionRuns}
use Rattle.rules.specs.declared.Rules.{Rules}
use Rattle.runs.proofs.Corresponding.{late, Corresponding, spans-moves, encloses-moves}
use Rattle.runs.proofs.BodyRuns.{body-pieces, body-runs}
use Rattle.runs.proofs.BodyLine.{around-some}
use Rattle.runs.proofs.PrivateLines.{ledText, led-is}
use Rattle.runs.proofs.TwoRuns.{line-pieces, line-runs, led-some, no-lines}

-- ---- what is withheld behind a place
-- stretches that some piece of the one holds, or encloses, from i₁ on, and those of the other from i₂ on
record Moves (f : ℕ → ℕ → Piece → Bool) (ps₁ ps₂ : List Piece) (i₁ i₂ : ℕ) : Type 0 where
  stretch : (c d : ℕ) → any (f (i₁ + c) (i₁ + d)) ps₁ ≡ any (f (i₂ + c) (i₂ + d)) ps₂

record Carried (ps₁ ps₂ : List Piece) (i₁ i₂ : ℕ) : Type 0 where
  held : Moves spans ps₁ ps₂ i₁ i₂
  enclosed : Moves encloses ps₁ ps₂ i₁ i₂

-- from a later place on
moves-on : (f : ℕ → ℕ → Piece → Bool) {ps₁ ps₂ : List Piece} {i₁ i₂ k₁ k₂ : ℕ} (n : ℕ) → k₁ ≡ i₁ + n → k₂ ≡ i₂ + n → Moves f ps₁ ps₂ i₁ i₂ → Moves f ps₁ ps₂ k₁ k₂
moves-on f {i₁ = i₁} {i₂} n e₁ e₂ w =
    record { stretch = λ c d. rw (e₁, e₂, add_assoc i₁ n c, add_assoc i₁ n d, add_assoc i₂ n c, add_assoc i₂ n d) (w.stretch (n + c) (n + d)) }

moves-both : (f : ℕ → ℕ → Piece → Bool) {ps₁ ps₂ ps₃ : List Piece} {i₁ i₂ i₃ : ℕ} → Moves f ps₁ ps₂ i₁ i₂ → Moves f ps₂ ps₃ i₂ i₃ → Moves f ps₁ ps₃ i₁ i₃
moves-both f v w = record { stretch = λ c d. v.stretch c d ∙ w.stretch c d }

carried-on : {ps₁ ps₂ : List Piece} {i₁ i₂ k₁ k₂ : ℕ} (n : ℕ) → k₁ ≡ i₁ + n → k₂ ≡ i₂ + n → Carried ps₁ ps₂ i₁ i₂ → Carried ps₁ ps₂ k₁ k₂
carried-on n e₁ e₂ w = record { held = moves-on spans n e₁ e₂ w.held; enclosed = moves-on encloses n e₁ e₂ w.enclosed }

-- behind the bytes that differ
carried-moves : (p j₁ j₂ : ℕ) → p < j₁ → p < j₂ → {ps₁ ps₂ : List Piece} → Corresponding p j₁ j₂ ps₁ ps₂ → Carried ps₁ ps₂ j₁ j₂
carried-moves p j₁ j₂ h₁ h₂ w =
    record {
      held = record { stretch = λ c d. spans-moves p j₁ j₂ h₁ h₂ w (late c) (late d) };
      enclosed = record { stretch = λ c d. encloses-moves p j₁ j₂ h₁ h₂ w (late c) (late d) };
    }

carried-both : {ps₁ ps₂ ps₃ : List Piece} {i₁ i₂ i₃ : ℕ} → Carried ps₁ ps₂ i₁ i₂ → Carried ps₂ ps₃ i₂ i₃ → Carried ps₁ ps₃ i₁ i₃
carried-both v w = record { held = moves-both spans v.held w.held; enclosed = moves-both encloses v.enclosed w.enclosed }

-- a stretch that begins there
moves-there : (f : ℕ → ℕ → Piece → Bool) {ps₁ ps₂ : List Piece} (u₁ u₂ m : List ℕ) → Moves f ps₁ ps₂ (length u₁) (length u₂)
    → any (f (length u₁) (length (u₁ ++ m))) ps₁ ≡ true → any (f (length u₂) (length (u₂ ++ m))) ps₂ ≡ true
moves-there f u₁ u₂ m w h =
    let k = rw (length-append u₁ m) at h in
    let e = rw (add-zero (length u₁), add-zero (length u₂)) at (w.stretch 0 (length m)) in
    rw (length-append u₂ m) (sym e ∙ k)

-- ---- whether bytes end in LF
ends-behind : (u : List ℕ) (x : ℕ) (t : List ℕ) → endsInLineFeed (u ++ (x ∷ t)) ≡ endsInLineFeed (x ∷ t)
ends-behind [] x t = refl
ends-behind (y ∷ []) x t = refl
ends-behind (y ∷ z ∷ u) x t = ends-behind (z ∷ u) x t

ends-is : (s : List ℕ) → endsInLineFeed s ≡ true → (before : List ℕ) × (s ≡ before ++ (byte "\n" ∷ []))
ends-is [] h = clash true refl (sym h)
ends-is (x ∷ []) h = ([], ap (λ (y : ℕ). y ∷ []) (eqb-true x (byte "\n") h))
ends-is (x ∷ y ∷ s) h = let w = ends-is (y ∷ s) h in (x ∷ w.0, ap (λ (t : List ℕ). x ∷ t) w.1)

-- behind bytes of both
ends-same : (u v s : List ℕ) → (endsInLineFeed u ≡ true → endsInLineFeed v ≡ true) → endsInLineFeed (u ++ s) ≡ true → endsInLineFeed (v ++ s) ≡ true
ends-same u v [] f h = rw (append-nil v) (f (rw (append-nil u) at h))
ends-same u v (x ∷ s) f h = ends-behind v x s ∙ (sym (ends-behind u x s) ∙ h)

-- behind a body with its opening and closer
ends-around : (u : List ℕ) (form : Form) (b : List ℕ) → endsInLineFeed (u ++ around form b) ≡ false
ends-around u form b =
    ap endsInLineFeed (sym (append_assoc u (opening form) (b ++ closer form)) ∙ sym (append_assoc (u ++ opening form) b (closer form))) ∙ by-form form
  where
    by-form : (f : Form) → endsInLineFeed (((u ++ opening form) ++ b) ++ closer f) ≡ false
    by-form comment = ends-behind ((u ++ opening form) ++ b) _ _
    by-form instruction = ends-behind ((u ++ opening form) ++ b) _ _
    by-form (declaration letter h) = ends-behind ((u ++ opening form) ++ b) _ _
    by-form cdata = ends-behind ((u ++ opening form) ++ b) _ _

-- behind whole lines
ends-lines : (u : List ℕ) (cs : List (List ℕ)) → endsInLineFeed u ≡ true → endsInLineFeed (u ++ linesText cs) ≡ true
ends-lines u [] h = rw (append-nil u) h
ends-lines u (c ∷ cs) h =
    let e : u ++ (c ++ (byte "\n" ∷ linesText cs)) ≡ ((u ++ c) ++ (byte "\n" ∷ [])) ++ linesText cs =
    sym (append_assoc u c (byte "\n" ∷ linesText cs)) ∙ sym (append_assoc (u ++ c) (byte "\n" ∷ []) (linesText cs)) in
    rw e (ends-lines ((u ++ c) ++ (byte "\n" ∷ [])) cs (ends-behind (u ++ c) (byte "\n") []))

-- ---- runs
runs-same : {ρ : Rules} {flags one : List ℕ} → SameRuns ρ flags one one
runs-same = record { same-bytes = refl; same-length = refl; same-count = refl }

runs-both : {ρ : Rules} {flags one two three : List ℕ} → SameRuns ρ flags one two → SameRuns ρ flags two three → SameRuns ρ flags one three
runs-both a b =
    record { same-bytes = a.same-bytes ∙ b.same-bytes; same-length = a.same-length ∙ b.same-length; same-count = a.same-count ∙ b.same-count }

module _ (ρ : Rules) (flags : List ℕ) (ps : List Piece) (old new rest : List ℕ) where
  -- old is what of bulletin one was passed, new what stands in its place, and rest what follows: what a passage p gives that is put in, the two runs, what is withheld
  -- behind it, and that private lines may follow where they do in bulletin one
  record Step (p : Passage) : Type 0 where
    runs : SameRuns ρ flags (new ++ (inOne p ++ rest)) (new ++ (inTwo p ++ rest))
    carried : Carried ps (pieces ρ (new ++ (inTwo p ++ rest)) flags) (length (old ++ inOne p)) (length (new ++ inTwo p))
    ends : endsInLineFeed (old ++ inOne p) ≡ true → endsInLineFeed (new ++ inTwo p) ≡ true

  body-step : (form : Form) (b₁ b₂ : List ℕ) → (all isPrivate b₁ && all isPrivate b₂) ≡ true → holdsBody ps old form b₁ ≡ true
      → Carried ps (pieces ρ (new ++ (around form b₁ ++ rest)) flags) (length old) (length new) → Step (bodies form b₁ b₂)
  body-step form b₁ b₂ h held w =
      let private = and_parts (all isPrivate b₁) (all isPrivate b₂) h in
      let d : InlineSwap (new ++ (around form b₁ ++ rest)) (new ++ (around form b₂ ++ rest)) =
      record { before = new; form = form; body₁ = b₁; body₂ = b₂; after = rest; private₁ = private.0; private₂ = private.1; one-is = refl; two-is = refl } in
      let n₁ = length (around form b₁) in
      let n₂ = length (around form b₂) in
      let p = length new in
      let m = carried-moves p (p + n₁) (p + n₂) (omega (arith, around-some form b₁)) (omega (arith, around-some form b₂)) (body-pieces ρ flags d) in
      record {
        runs = body-runs ρ flags d (moves-there spans old new (around form b₁) w.held held);
        carried = rw (length-append old (around form b₁), length-append new (around form b₂)) (carried-both (carried-on n₁ refl refl w) m);
        ends = λ l. clash (endsInLineFeed (old ++ around form b₁)) l (ends-around old form b₁);
      }

  module _ (cs₁ cs₂ : List (List ℕ)) (h : (eqb (length cs₁) (length cs₂) && (all (all isPrivate) cs₁ && all (all isPrivate) cs₂)) ≡ true)
      (new-ends : endsInLineFeed new ≡ true) (held : holdsLines ps old cs₁ ≡ true)
      (w : Carried ps (pieces ρ (new ++ (linesText cs₁ ++ rest)) flags) (length old) (length new)) where
    abbrev mid₁ : List ℕ
    mid₁ = new ++ (linesText cs₁ ++ rest)

    abbrev mid₂ : List ℕ
    mid₂ = new ++ (linesText cs₂ ++ rest)

    abbrev before : List ℕ
    before = (ends-is new new-ends).0

    is : new ≡ before ++ (byte "\n" ∷ [])
    is = (ends-is new new-ends).1

    same-number : length cs₁ ≡ length cs₂
    same-number = eqb-true _ _ (and_parts (eqb (length cs₁) (length cs₂)) (all (all isPrivate) cs₁ && all (all isPrivate) cs₂) h).0

    private : (all (all isPrivate) cs₁ ≡ true) × (all (all isPrivate) cs₂ ≡ true)
    private = and_parts _ _ (and_parts (eqb (length cs₁) (length cs₂)) (all (all isPrivate) cs₁ && all (all isPrivate) cs₂) h).1

    abbrev d : LinesSwap mid₁ mid₂
    d =
        record {
          before = before;
          lines₁ = cs₁;
          lines₂ = cs₂;
          after = rest;
          same-number = same-number;
          private₁ = private.0;
          private₂ = private.1;
          one-is = ap (λ (f : List ℕ). f ++ (linesText cs₁ ++ rest)) is;
          two-is = ap (λ (f : List ℕ). f ++ (linesText cs₂ ++ rest)) is;
        }

    withheld : WithheldLines ρ flags d
    withheld = rw (sym is) (moves-there encloses old new (linesText cs₁) w.enclosed held)

    led-length : (cs : List (List ℕ)) → length new + length (linesText cs) ≡ length before + length (ledText cs) + 1
    led-length cs = omega (arith, ap length is, length-append before (byte "\n" ∷ []), ap length (led-is cs), length-append (ledText cs) (byte "\n" ∷ []))

    lines-carried : Carried ps (pieces ρ mid₂ flags) (length old + length (linesText cs₁)) (length new + length (linesText cs₂))
    lines-carried =
        let on = carried-on (length (linesText cs₁)) refl refl w in
        split (ltb 0 (length cs₁))
        (λ t.
        let l₁ = led-some cs₁ (ltb-true 0 (length cs₁) t) in
        let l₂ = led-some cs₂ (omega (arith, same-number, ltb-true 0 (length cs₁) t)) in
        let p = length before in
        let m = carried-moves p (p + length (ledText cs₁)) (p + length (ledText cs₂)) (omega (arith, l₁)) (omega (arith, l₂)) (line-pieces ρ flags d withheld) in
        carried-both on (carried-on 1 (led-length cs₁) (led-length cs₂) m))
        (λ t.
        let l = ltb-false 0 (length cs₁) t in
        let e : cs₂ ≡ cs₁ = no-lines cs₂ (omega (arith, same-number, l)) ∙ sym (no-lines cs₁ l) in
        rw e on)

    lines-step : Step (wholeLines cs₁ cs₂)
    lines-step =
        record {
          runs = line-runs ρ flags d withheld;
          carried = rw (length-append old (linesText cs₁), length-append new (linesText cs₂)) lines-carried;
          ends = λ l. ends-lines new cs₂ new-ends;
        }

  step : (p : Passage) → keepsPrivate p ≡ true → withholds ps old p ≡ true → (endsInLineFeed old ≡ true → endsInLineFeed new ≡ true)
      → Carried ps (pieces ρ (new ++ (inOne p ++ rest)) flags) (length old) (length new) → Step p
  step (kept s) h k e w =
      record { runs = runs-same; carried = carried-on (length s) (length-append old s) (length-append new s) w; ends = ends-same old new s e }
  step (bodies form b₁ b₂) h k e w = body-step form b₁ b₂ h k w
  step (wholeLines cs₁ cs₂) h k e w =
      let held = and_parts (endsInLineFeed old) (holdsLines ps old cs₁) k in
      lines-step cs₁ cs₂ h (e held.0) held.1 w

module _ (ρ : Rules) (flags : List ℕ) (ps : List Piece) where
  several : (passages : List Passage) (old new : List ℕ) → all keepsPrivate passages ≡ true → withholdsAll ps old passages ≡ true
      → (endsInLineFeed old ≡ true → endsInLineFeed new ≡ true) → Carried ps (pieces ρ (new ++ text inOne passages) flags) (length old) (length new)
      → SameRuns ρ flags (new ++ text inOne passages) (new ++ text inTwo passages)
  unfolding all text withholdsAll
  several [] old new h k e w = runs-same
  several (p ∷ rest) old new h k e w =
      let private = and_parts (keepsPrivate p) (all keepsPrivate rest) h in
      let held = and_parts (withholds ps old p) (withholdsAll ps (old ++ inOne p) rest) k in
      let s = step ρ flags ps old new (text inOne rest) p private.0 held.0 e w in
      let a₁ = append_assoc new (inTwo p) (text inOne rest) in
      let a₂ = append_assoc new (inTwo p) (text inTwo rest) in
      let on = several rest (old ++ inOne p) (new ++ inTwo p) private.1 held.1 s.ends (rw a₁ s.carried) in
      runs-both s.runs (rw (a₁, a₂) at on)

-- for every reading, with any of the eight changes made
pub edition-runs : (ρ : Rules) → EditionRuns ρ
edition-runs ρ flags one two r₁ r₂ d =
    let start : Carried (pieces ρ one flags) (pieces ρ (text inOne d.passages) flags) 0 0 =
    rw (sym d.one-is) (record { held = record { stretch = λ c e. refl }; enclosed = record { stretch = λ c e. refl } }) in
    rw (d.one-is, d.two-is) (several ρ flags (pieces ρ one flags) d.passages [] [] d.private d.withheld (λ e. e) start)

-- ---- one private piece is a case of several
ends-in : (u : List ℕ) → endsInLineFeed (u ++ (byte "\n" ∷ [])) ≡ true
ends-in u = ends-behind u (byte "\n") []

pub one-piece : (ρ : Rules) (flags one two : List ℕ) → Swap ρ flags one two → Edition ρ flags one two
unfolding all text withholdsAll
one-piece ρ flags one two (in-line d h) =
    record {
      passages = kept d.before ∷ bodies d.form d.body₁ d.body₂ ∷ kept d.after ∷ [];
      one-is = d.one-is ∙ ap (λ (s : List ℕ). d.before ++ (around d.form d.body₁ ++ s)) (sym (append-nil d.after));
      two-is = d.two-is ∙ ap (λ (s : List ℕ). d.before ++ (around d.form d.body₂ ++ s)) (sym (append-nil d.after));
      private = rw (d.private₁, d.private₂) refl;
      withheld = rw h refl;
    }
one-piece ρ flags one two (in-block d h) =
    let front = d.before ++ (byte "\n" ∷ []) in
    record {
      passages = kept front ∷ wholeLines d.lines₁ d.lines₂ ∷ kept d.after ∷ [];
      one-is = d.one-is ∙ ap (λ (s : List ℕ). front ++ (linesText d.lines₁ ++ s)) (sym (append-nil d.after));
      two-is = d.two-is ∙ ap (λ (s : List ℕ). front ++ (linesText d.lines₂ ++ s)) (sym (append-nil d.after));
      private = rw (eq-eqb (length d.lines₁) (length d.lines₂) d.same-number, d.private₁, d.private₂) refl;
      withheld = rw (ends-in d.before, h) refl;
    }
