use Rattle.std.proofs.Common.{◌≡◌, ◌⊎◌, ℕ, List, false, refl, sym, ◌∙◌, inl, inr, arith}
use Rattle.rules.specs.Block.{beforeCloser, closes}
use Rattle.rules.specs.declared.Rules.{Rules}
use Rattle.rules.proofs.BlockLaws.{closes-not}
use Rattle.flow.specs.Answer.{kindNumber}
use Rattle.flow.specs.ContinuationMachine.{meetsOf}
use Rattle.flow.specs.declared.html_flow.Kind.{Kind}
use Rattle.flow.specs.declared.html_flow.Kind.TheVariants.{Comment, Instruction, Declaration, Cdata, Basic, Complete}
use Rattle.flow.specs.declared.html_flow.ContinuationName.TheVariants.{Continuation}
use Rattle.flow.proofs.ContinuationMeans.{finds-comment, finds-instruction, finds-declaration, finds-cdata, meets}
use Rattle.reader.proofs.html_flow.closes_line.Goals as goal

module _ (ρ : Rules) (κ : Kind) (s : List ℕ) where
  found : (κ ≡ Comment) ⊎ ((κ ≡ Instruction) ⊎ ((κ ≡ Declaration) ⊎ (κ ≡ Cdata))) → meetsOf ρ κ Continuation s ≡ closes ρ (kindNumber κ) s
  found (inl e) = rw e (meets ρ Comment (omega arith) (finds-comment ρ) s)
  found (inr (inl e)) = rw e (meets ρ Instruction (omega arith) (finds-instruction ρ) s)
  found (inr (inr (inl e))) = rw e (meets ρ Declaration (omega arith) (finds-declaration ρ) s)
  found (inr (inr (inr e))) = rw e (meets ρ Cdata (omega arith) (finds-cdata ρ) s)

  without : (κ ≡ Basic) ⊎ (κ ≡ Complete) → closes ρ (kindNumber κ) s ≡ false
  unfolding beforeCloser
  without (inl e) = rw e (closes-not ρ 6 s _ refl (omega arith))
  without (inr e) = rw e (closes-not ρ 7 s _ refl (omega arith))

pub returns-in-Comment : goal.returns-in-Comment
returns-in-Comment c = c.meets_closer.ensures ∙ found _ _ _ c.in-Comment.is

pub returns-in-Basic : goal.returns-in-Basic
returns-in-Basic c = sym (without _ _ _ c.in-Basic.is)
