-- One turn of the run over a text, at an index.
use Rattle.std.proofs.Common.{◌≡◌, ap, List, ℕ, ◌+◌, ◌-◌, ◌<◌, ◌≤◌, arith, length, get_or, drop, length-drop}
use Rattle.std.proofs.lemmas.List.{drop_all, drop_more}
use Rattle.rules.specs.Inline.{takes, lacks}
use Rattle.rules.specs.Scan.{foundInline, inlineAnswer}
use Rattle.rules.specs.declared.Rules.{Rules}
use Rattle.html.specs.TextMachine.{stepOf, follow, runOf}
use Rattle.html.specs.declared.tokenizer.StateName.{StateName}
use Rattle.html.specs.declared.tokenizer.State.{State}

-- r is what the state's function answers at the byte
module _ (ρ : Rules) (text : List ℕ) (st : StateName) (k i : ℕ) where
  pub turn : (r : State) → i < length text → r ≡ stepOf ρ st k (get_or text i 0)
      → runOf ρ st k (drop i text) ≡ follow r k (drop (i + 1) text) (λ s' k'. runOf ρ s' k' (drop (i + 1) text))
  unfolding runOf
  turn r h e = rw (drop_more text i 0 h, e)

  pub ended : length text ≤ i → runOf ρ st k (drop i text) ≡ lacks k
  unfolding runOf
  ended h = rw (drop_all i text h)

-- what is left behind the byte at i gives the stop
pub stop-is : (text : List ℕ) (i k : ℕ) → i < length text → foundInline (i + 1) k ≡ inlineAnswer (length text) (takes (drop (i + 1) text) k)
stop-is text i k h =
    let e : i + 1 ≡ length text - length (drop (i + 1) text) = rw (length-drop (i + 1) text) (omega arith) in
    ap (λ n. foundInline n k) e
