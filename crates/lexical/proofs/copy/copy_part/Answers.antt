use Rattle.std.proofs.Common.{◌≡◌, ℕ, ◌-◌, ◌≤◌, List, [], length, take, drop, sym, ap, ◌∙◌, arith, length-take}
use Rattle.lexical.proofs.Stores.{nothing-written, written-as}
use Rattle.lexical.proofs.copy.copy_part.Goals as goal

-- the bytes that are found, cut to the room
within-room : (room : ℕ) (part found : List ℕ) → part ≡ take (room - 0) (drop 0 found) → part ≡ take room found
within-room room part found e = let z : room - 0 ≡ room = omega arith in e ∙ ap (λ n. take n found) z

no-room : (size at : ℕ) (found : List ℕ) → size ≤ at → take (size - at) found ≡ []
no-room size at found h = let z : size - at ≡ 0 = omega arith in rw z

pub copy-requires : goal.copy-requires
copy-requires c = let a = c.args in
    omega (arith, ap length c.from_indices-part.ensures, length-take (length a.out.now - a.at - 0) c.from_indices.result.now)

pub returns-then-at-out : goal.returns-then-at-out
returns-then-at-out c = let a = c.args in
    written-as _ (ap (take (length a.out.now - a.at)) (sym c.from_indices.ensures) ∙ sym (within-room (length a.out.now - a.at) _ _ c.from_indices-part.ensures)) c.copy.ensures

pub returns-else-at-out : goal.returns-else-at-out
returns-else-at-out c = written-as _ (no-room _ _ _ c.if-at-out.false) nothing-written
