-- What inline reading leaves is the end of what there was. The machine takes bytes from the front one by one, so a run that ends well leaves a tail; and
-- reading is that run.
use Rattle.std.proofs.Common.{◌≡◌, refl, sym, ◌∙◌, ap, Bool, true, false, List, [], ◌∷◌, ℕ, suc, ◌-◌, arith, length, drop, length-drop}
use Rattle.rules.specs.Search.{choose}
use Rattle.rules.specs.Inline.{Read, takes, lacks, keeping, rawHtml, readInline}
use Rattle.rules.specs.declared.Rules.{Rules}
use Rattle.html.specs.TextMachine.{stepOf, follow, runOf}
use Rattle.html.specs.declared.tokenizer.StateName.{StateName}
use Rattle.html.specs.declared.tokenizer.StateName.TheVariants.{Start}
use Rattle.html.specs.declared.tokenizer.State.{State}
use Rattle.html.specs.declared.tokenizer.State.TheVariants.{Next, Ok, Nok}
use Rattle.html.proofs.TextMeans.{start-is}

-- t is the end of s
abbrev Ends : List ℕ → List ℕ → Type 0
Ends s t = t ≡ drop (length s - length t) s

-- what is read leaves an end of s
abbrev Leaves : List ℕ → Read → Type 0
Leaves s r = (t : List ℕ) (k : ℕ) → r ≡ takes t k → Ends s t

-- the same with a byte in front
ends-on : (x : ℕ) (s t : List ℕ) → Ends s t → Ends (x ∷ s) t
ends-on x s t e =
    let l : length t ≡ length s - (length s - length t) = ap length e ∙ length-drop (length s - length t) s in
    let n : suc (length s) - length t ≡ suc (length s - length t) = omega (arith, l) in
    e ∙ sym (ap (λ i. drop i (x ∷ s)) n)

-- all but the first byte
ends-tail : (x : ℕ) (s : List ℕ) → Ends (x ∷ s) s
ends-tail x s = let n : suc (length s) - length s ≡ 1 = omega arith in sym (ap (λ i. drop i (x ∷ s)) n)

step-leaves : (x k : ℕ) (xs : List ℕ) (go : StateName → ℕ → Read) → ((s : StateName) (k : ℕ) → Leaves xs (go s k)) → (r : State) → Leaves (x ∷ xs) (follow r k xs go)
step-leaves x k xs go ih (Next s k') t c h = ends-on x xs t (ih s k' t c h)
step-leaves x k xs go ih Ok t c h = let e : xs ≡ t = cc in rw (← e) (ends-tail x xs)
step-leaves x k xs go ih Nok t c h = cc

run-leaves : (ρ : Rules) (xs : List ℕ) (s : StateName) (k : ℕ) → Leaves xs (runOf ρ s k xs)
unfolding runOf
run-leaves ρ [] s k t c h = cc
run-leaves ρ (x ∷ xs) s k t c h = step-leaves x k xs (λ s' k'. runOf ρ s' k' xs) (run-leaves ρ xs) (stepOf ρ s k x) t c h

raw-leaves : (ρ : Rules) (s : List ℕ) → Leaves s (rawHtml ρ 0 s)
raw-leaves ρ s t k h = run-leaves ρ s Start 0 t k (start-is ρ s 0 (omega arith) ∙ h)

-- the carry does not matter
keeping-leaves : (s : List ℕ) (r : Read) → Leaves s r → Leaves s (keeping 0 r)
keeping-leaves s (takes u c) l t k h = let e : u ≡ t = cc in rw (← e) (l u c refl)
keeping-leaves s (lacks c) l t k h = cc

either-leaves : (b : Bool) (s : List ℕ) (r : Read) → Leaves s r → Leaves s (choose b (λ _. r) (λ _. keeping 0 r))
either-leaves true s r l = l
either-leaves false s r l = keeping-leaves s r l

pub read-rest : (ρ : Rules) (s t : List ℕ) (k : ℕ) → readInline ρ 0 s ≡ takes t k → t ≡ drop (length s - length t) s
unfolding readInline
read-rest ρ s t k h = either-leaves ρ.t2 s (rawHtml ρ 0 s) (raw-leaves ρ s) t k h
