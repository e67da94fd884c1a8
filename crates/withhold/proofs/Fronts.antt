-- Of buffers in which only the front changes: a change in the front of what is left is one in a longer front of the whole.
use Rattle.std.proofs.Common.{◌≡◌, sym, ◌∙◌, ap, List, ◌++◌, ℕ, ◌+◌, ◌-◌, arith, length, take, drop, length-take, length-drop, take-append-drop, drop-drop, length-take-le}
use lib.Seq.{drop-append-add, drop-append-le}
use borrow.Rule.Slice.PartMut.{mid_of, post_of, put_mid, same_len_mid}
use Rattle.withhold.specs.Input.{FrontOnly}

-- the rest, from an index on, is lent and comes back
module _ (done count : ℕ) (old buffer back : List ℕ) (before : FrontOnly done old buffer) (front : FrontOnly count (mid_of done (length buffer - done) buffer) back) where
  abbrev size : ℕ
  size = length buffer - done

  lent : length (mid_of done size buffer) ≡ size
  lent = omega (arith, length-take size (drop done buffer), length-drop done buffer)

  head : length (take done buffer) ≡ done
  head = length-take-le done buffer (omega (arith, before.room, before.same))

  behind : drop (done + count) (put_mid done size buffer back) ≡ drop count (back ++ post_of done size buffer)
  behind = ap (λ n. drop (n + count) (put_mid done size buffer back)) (sym head) ∙ drop-append-add (take done buffer) (back ++ post_of done size buffer) count

  unchanged : drop count (back ++ post_of done size buffer) ≡ drop count (drop done buffer)
  unchanged =
      drop-append-le count back (post_of done size buffer) (omega (arith, front.room, front.same))
      ∙ ap (λ l. l ++ post_of done size buffer) front.rest
      ∙ sym (drop-append-le count (mid_of done size buffer) (post_of done size buffer) front.room)
      ∙ ap (drop count) (take-append-drop size (drop done buffer))

  pub onward : FrontOnly (done + count) old (put_mid done (length buffer - done) buffer back)
  onward =
      record {
        room = omega (arith, before.room, before.same, front.room, lent);
        same = same_len_mid done size buffer back front.same ∙ before.same;
        rest = behind ∙ unchanged ∙ ap (drop count) before.rest ∙ drop-drop count done old;
      }
