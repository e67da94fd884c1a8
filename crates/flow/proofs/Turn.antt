-- One turn of the run over what is left of a line.
use Rattle.std.proofs.Common.{◌≡◌, sym, ap, ◌∙◌, List, ℕ, ◌+◌, ◌-◌, ◌<◌, ◌≤◌, length, get_or, take, drop}
use Rattle.std.proofs.Math.Seq.{take-length}
use Rattle.std.proofs.lemmas.List.{length-drop, drop_all, drop_more}
use Rattle.rules.specs.declared.Rules.{Rules}
use Rattle.flow.specs.CompleteMachine.{stepOf, accepts, follow, runOf}
use Rattle.flow.specs.declared.tokenizer.StateName.{StateName}
use Rattle.flow.specs.declared.tokenizer.State.{State}

module _ (ρ : Rules) (line : List ℕ) (st : StateName) (i : ℕ) where
  -- r is what the state's function answers at the byte
  pub turn : (r : State) → i < length line → r ≡ stepOf ρ st (get_or line i 0) → runOf ρ st (drop i line) ≡ follow r (λ s'. runOf ρ s' (drop (i + 1) line))
  unfolding runOf
  turn r h e = rw (drop_more line i 0 h, e)

  pub ended : length line ≤ i → runOf ρ st (drop i line) ≡ accepts st
  unfolding runOf
  ended h = rw (drop_all i line h)

-- the bytes from an index to the end
pub to-end : (s : List ℕ) (i : ℕ) → take (length s - i) (drop i s) ≡ drop i s
to-end s i = ap (λ n. take n (drop i s)) (sym (length-drop i s)) ∙ take-length (drop i s)
