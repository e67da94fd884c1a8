-- Laws of an entry that writes: what it reads is refused, the buffer is shorter than the output, or all of it is written.
use Rattle.std.proofs.Common.{◌≡◌, sym, ◌∙◌, ap, false, List, ℕ, ◌<◌, ◌≤◌, arith, eqb, length, ne_eqb}
use Rattle.lexical.specs.Buffer.{Written as Stored}
use Rattle.lexical.proofs.Stores.{from-front}
use Rattle.rules.specs.Withhold.{written}
use Rattle.rules.specs.Output.{wrote, answering, Gives, Writes}
use Rattle.std.specs.Result.{IsErrAnd}
use Rattle.std.specs.declared.result.Result.{Result}
use Rattle.std.specs.declared.result.Result.TheVariants.{Ok, Err}
use Rattle.rules.specs.Refusal.{refusalNumber, outputRefusal}
use Rattle.rules.specs.declared.refusal.Refusal.{Refusal}
use Rattle.rules.specs.declared.refusal.Refusal.TheVariants.{NoRoom}
use Rattle.rules.proofs.Refusals.{refusal-positive, raised, output-first, output-short, output-fits}

-- number: how much the entry says that it writes
module _ (number : ℕ) (output old : List ℕ) where
  -- told: the number that what is read is refused with, or 0
  abbrev By : ℕ → Result ℕ Refusal → List ℕ → Type 0
  By told r new = Gives (outputRefusal told (length old) output) number output old r new

  pub told-by : {told : ℕ} {r : Result ℕ Refusal} {new : List ℕ} (n : ℕ) → n ≡ told → By n r new → By told r new
  told-by n e w = rw (sym e) w

  pub read-refused : (r : Refusal) → By (refusalNumber r) (Err r) old
  unfolding answering written
  read-refused r =
      let h : refusalNumber r ≡ 0 → ⊥ = refusal-positive r in
      let e : outputRefusal (refusalNumber r) (length old) output ≡ refusalNumber r = output-first (refusalNumber r) (length old) output h in
      let t : eqb (refusalNumber r) 0 ≡ false = ne_eqb (refusalNumber r) 0 h in
      record { answer = rw (e, t); buffer = rw (e, t) }

  -- what is read is refused, and the answer passes that on
  pub passed-on : {told : ℕ} (r : Result ℕ Refusal) (e : Refusal) → IsErrAnd r (λ x. x ≡ e) → refusalNumber e ≡ told → By told r old
  passed-on r e h k = rw (raised r h) (told-by (refusalNumber e) k (read-refused e))

  pub not-written : length old < length output → By 0 (Err NoRoom) old
  unfolding answering written
  not-written h = record { answer = rw (output-short (length old) output h); buffer = rw (output-short (length old) output h) }

  pub all-written : {new : List ℕ} (n : ℕ) → n ≡ number → new ≡ written 0 output old → Gives 0 number output old (Ok n) new
  unfolding answering
  all-written n e w = record { answer = ap wrote e; buffer = w }

  pub fits : {r : Result ℕ Refusal} {new : List ℕ} → length output ≤ length old → Gives 0 number output old r new → By 0 r new
  fits h w = rw (output-fits (length old) output h) w

-- bytes that are written from the front of the buffer
pub is-written : (output old : List ℕ) {new : List ℕ} (n : ℕ) → n ≡ length output → n ≤ length old → Stored old 0 output new
    → Writes (outputRefusal 0 (length old) output) output old (Ok n) new
unfolding written
is-written output old n e h w =
    let f : length output ≤ length old = omega arith in fits (length output) output old f (all-written (length output) output old n e (w.is ∙ from-front output old f))
