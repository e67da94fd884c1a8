-- One turn of the run that uses the lent step: where a scanner stands after a byte says what is left of the run, as the state's answer does in the core.
use Rattle.std.proofs.Common.{◌≡◌, ℕ, ◌+◌, ◌<◌, List, length, get_or, drop, refl, sym, ap, ◌∙◌}
use Rattle.rules.specs.Inline.{Read, takes, lacks}
use Rattle.rules.specs.declared.Rules.{Rules}
use Rattle.html.specs.TextMachine.{stepOf, follow, runOf}
use Rattle.html.specs.declared.tokenizer.StateName.{StateName}
use Rattle.html.specs.declared.tokenizer.State.{State}
use Rattle.html.specs.declared.tokenizer.State.TheVariants as state
use Rattle.html.proofs.Turn.{turn}
use Rattle.reader.specs.Lent.{putOf, whileGoing, scannerOf}
use Rattle.reader.specs.declared.html_text.Scanner.{Scanner}
use Rattle.reader.specs.declared.html_text.Status.{Status}
use Rattle.reader.specs.declared.html_text.Status.TheVariants.{Going, Ok, Nok}

module _ (ρ : Rules) (xs : List ℕ) where
  -- what is left of a run, by a scanner's status, state and size
  abbrev pub restOf : Status → StateName → ℕ → Read
  restOf Going s k = runOf ρ s k xs
  restOf Ok s k = takes xs k
  restOf Nok s k = lacks k

  put : (s : StateName) (k : ℕ) (a : State) → follow a k xs (λ s' k'. runOf ρ s' k' xs) ≡ restOf (putOf s k a).status (putOf s k a).state (putOf s k a).size
  put s k (state.Next s' k') = refl
  put s k state.Ok = refl
  put s k state.Nok = refl

-- r is the scanner after the byte at i, with the status t
pub turned : (ρ : Rules) (text : List ℕ) (i : ℕ) (s r : Scanner) (t : Status) → i < length text → s.status ≡ Going → r ≡ scannerOf ρ s (get_or text i 0) → r.status ≡ t
    → runOf ρ s.state s.size (drop i text) ≡ restOf ρ (drop (i + 1) text) t r.state r.size
unfolding scannerOf
turned ρ text i s r t h g e w =
    let a : State = stepOf ρ s.state s.size (get_or text i 0) in
    let made : r ≡ putOf s.state s.size a = e ∙ ap (λ (v : Status). whileGoing v (putOf s.state s.size a) s) g in
    turn ρ text s.state s.size i a h refl
    ∙ put ρ (drop (i + 1) text) s.state s.size a
    ∙ ap (λ (v : Scanner). restOf ρ (drop (i + 1) text) v.status v.state v.size) (sym made)
    ∙ ap (λ (v : Status). restOf ρ (drop (i + 1) text) v r.state r.size) w
