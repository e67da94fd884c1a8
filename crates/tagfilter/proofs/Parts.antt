-- Parts of a bulletin. What is no `<` stays as it is, so from one `<` to the next nothing is replaced; at a tag four bytes come in place of one. A part is written
-- from tag to tag: what is done and what is to come are together the whole.
use Rattle.std.proofs.Common.{◌≡◌, refl, sym, ◌∙◌, ap, Bool, true, false, List, [], ◌∷◌, ◌++◌, append_assoc, append-nil, ℕ, zero, suc, ◌+◌, ◌*◌, ◌-◌, ◌<◌, ◌≤◌, arith, eqb, length, get_or, take, drop, length-append, length-drop, drop-drop, length-take-le}
use Rattle.std.proofs.lemmas.List.{drop_more}
use Rattle.lexical.specs.Text.{byte, bytes, run}
use Rattle.lexical.specs.Buffer.{Written}
use Rattle.lexical.proofs.Cases.{split, excluded}
use Rattle.lexical.proofs.Suffix.{drop-take, parts}
use Rattle.lexical.proofs.Run.{run-length}
use Rattle.lexical.proofs.Stores.{nothing-written, then, same, written-as, written-whole}
use Rattle.rules.specs.Search.{choose}
use Rattle.rules.specs.Filter.{isDisallowed}
use Rattle.walk.specs.Remaining.{isPlain}
use Rattle.tagfilter.specs.Part.{replacedPart, replacedBetween, Passed, TagAt, WritesPart}

-- ---- what is no `<`
pub not-a-tag : (x : ℕ) (xs : List ℕ) → eqb x (byte "<") ≡ false → isDisallowed (x ∷ xs) ≡ false
unfolding isDisallowed
not-a-tag x xs e = rw e

plain-stays : (n : ℕ) (s : List ℕ) → replacedPart n s ≡ take (run isPlain (take n s)) s ++ replacedPart (n - run isPlain (take n s)) (drop (run isPlain (take n s)) s)
unfolding replacedPart run
plain-stays zero s = refl
plain-stays (suc n) [] = let z : suc n - 0 ≡ suc n = omega arith in rw z
plain-stays (suc n) (x ∷ s) =
    let z : suc n - 0 ≡ suc n = omega arith in
    split (isPlain x)
    (λ h.
    let r = run isPlain (take n s) in
    let y : suc n - suc r ≡ n - r = omega arith in
    rw (h, not-a-tag x s (excluded isPlain (byte "<") x refl h), y) (ap (λ (t : List ℕ). x ∷ t) (plain-stays n s)))
    (λ h. rw (h, z))

-- no more than four bytes come in place of one
pub part-bound : (n : ℕ) (s : List ℕ) → length (replacedPart n s) ≤ 4 * n
unfolding replacedPart
part-bound zero s = omega arith
part-bound (suc n) [] = omega arith
part-bound (suc n) (x ∷ s) = let l = part-bound n s in split (isDisallowed (x ∷ s)) (λ h. rw h (omega (arith, l))) (λ h. rw h (omega (arith, l)))

-- ---- from one index to another
module _ (text : List ℕ) (stop : ℕ) where
  pub passed-on : (i j k : ℕ) → Passed text stop i j → Passed text stop j k → Passed text stop i k
  passed-on i j k p q =
      let a = p.from in
      let b = q.from in
      let front = take (j - i) (drop i text) in
      let next = take (k - j) (drop j text) in
      let more = replacedBetween text k stop in
      record {
        from = omega arith;
        to = q.to;
        same = p.same ∙ ap (λ (t : List ℕ). front ++ t) q.same ∙ sym (append_assoc front next more) ∙ ap (λ (t : List ℕ). t ++ more) (parts i j k text a b);
      }

  -- up to the next `<` of the line
  pub passed-plain : (i j : ℕ) → i ≤ stop → j ≡ i + run isPlain (drop i (take stop text)) → stop ≤ length text → Passed text stop i j
  passed-plain i j h e l =
      let n = run isPlain (take (stop - i) (drop i text)) in
      let r : run isPlain (drop i (take stop text)) ≡ n = ap (run isPlain) (drop-take i stop text) in
      let m : n ≤ length (take (stop - i) (drop i text)) = run-length isPlain (take (stop - i) (drop i text)) in
      let s : length (take (stop - i) (drop i text)) ≡ stop - i = length-take-le (stop - i) (drop i text) (omega (arith, length-drop i text)) in
      let q : i + n ≡ j = omega (arith, e, r) in
      let z : j - i ≡ n = omega (arith, e, r) in
      let y : stop - i - n ≡ stop - j = omega (arith, e, r) in
      let d : drop n (drop i text) ≡ drop j text = drop-drop n i text ∙ ap (λ (k : ℕ). drop k text) q in
      record {
        from = omega (arith, e);
        to = omega (arith, e, r, m, s);
        same =
            plain-stays (stop - i) (drop i text)
            ∙ ap (λ (k : ℕ). take k (drop i text) ++ replacedPart (stop - i - n) (drop n (drop i text))) (sym z)
            ∙ ap (λ (t : List ℕ). take (j - i) (drop i text) ++ replacedPart (stop - i - n) t) d
            ∙ ap (λ (k : ℕ). take (j - i) (drop i text) ++ replacedPart k (drop j text)) y;
      }

  module _ (i : ℕ) (h : i < stop) (l : stop ≤ length text) where
    here : (b : Bool) → isDisallowed (drop i text) ≡ b
        → replacedBetween text i stop ≡ choose b (λ _. bytes "&lt;" ++ replacedBetween text (i + 1) stop) (λ _. get_or text i 0 ∷ replacedBetween text (i + 1) stop)
    unfolding replacedPart
    here b e =
        let z : stop - i ≡ suc (stop - (i + 1)) = omega arith in
        let k : i < length text = omega arith in
        let t : isDisallowed (get_or text i 0 ∷ drop (i + 1) text) ≡ b = ap isDisallowed (sym (drop_more text i 0 k)) ∙ e in
        rw (z, drop_more text i 0 k, t)

    -- over one byte
    pub passed-one : isDisallowed (drop i text) ≡ false → Passed text stop i (i + 1)
    passed-one e =
        let z : i + 1 - i ≡ 1 = omega arith in
        let k : i < length text = omega arith in
        record { from = omega arith; to = omega arith; same = here false e ∙ sym (rw (z, drop_more text i 0 k)) }

    -- at a tag
    pub at-tag : isDisallowed (drop i text) ≡ true → replacedBetween text i stop ≡ bytes "&lt;" ++ replacedBetween text (i + 1) stop
    at-tag e = here true e

  -- up to the stop
  pub passed-all : (i j : ℕ) → Passed text stop i j → stop ≤ j → replacedBetween text i stop ≡ take (stop - i) (drop i text)
  unfolding replacedPart
  passed-all i j p h =
      let e : j ≡ stop = omega (arith, p.to) in
      let z : stop - stop ≡ 0 = omega arith in
      p.same ∙ ap (λ (k : ℕ). take (k - i) (drop i text) ++ replacedBetween text k stop) e ∙ rw z (append-nil (take (stop - i) (drop i text)))

  -- ---- the length
  abbrev sizeFrom : ℕ → ℕ
  sizeFrom i = length (replacedBetween text i stop)

  -- size has the bytes from the start on and three more for each tag before the place
  pub record Counted (start from size : ℕ) : Type 0 where
    pub to : from ≤ stop
    pub sum : size + sizeFrom from ≡ stop - from + sizeFrom start

  module _ (l : stop ≤ length text) where
    pub between-length : (i j : ℕ) → i ≤ j → j ≤ stop → length (take (j - i) (drop i text)) ≡ j - i
    between-length i j a b = length-take-le (j - i) (drop i text) (omega (arith, length-drop i text))

    passed-length : (i j : ℕ) → Passed text stop i j → sizeFrom i ≡ j - i + sizeFrom j
    passed-length i j p = omega (arith, ap length p.same ∙ length-append (take (j - i) (drop i text)) (replacedBetween text j stop), between-length i j p.from p.to)

    pub counted-start : (start : ℕ) → start ≤ stop → Counted start start (stop - start)
    counted-start start h = record { to = h; sum = refl }

    module _ {start from size : ℕ} (c : Counted start from size) where
      pub counted-on : {tag : ℕ} → TagAt text from stop tag → Counted start (tag + 1) (size + 3)
      counted-on {tag} t =
          let a = t.passed.from in
          let h = t.within in
          record { to = omega arith; sum = omega (arith, passed-length from tag t.passed, ap length (at-tag tag h l t.tag), c.sum) }

      pub counted-bound : size ≤ stop + 4 * stop
      counted-bound = omega (arith, c.sum, part-bound (stop - start) (drop start text))

      pub counted-end : replacedBetween text from stop ≡ take (stop - from) (drop from text) → size ≡ sizeFrom start
      counted-end e = let q : stop ≤ stop = omega arith in omega (arith, ap length e, between-length from stop c.to q, c.sum)

-- ---- writing
-- of the bytes of a whole, those in front are written, and the rest is to come
module _ (old : List ℕ) (at : ℕ) (whole : List ℕ) where
  pub record UpTo (out : List ℕ) (size : ℕ) (rest : List ℕ) : Type 0 where
    pub done : List ℕ
    pub is : done ++ rest ≡ whole
    pub in-front : Written old at done out
    pub place : size ≡ at + length done

  pub up-to-start : UpTo old at whole
  up-to-start = record { done = []; is = refl; in-front = nothing-written; place = omega arith }

  module _ (out : List ℕ) (size : ℕ) (rest : List ℕ) (u : UpTo out size rest) where
    pub to-come : size + length rest ≡ at + length whole
    to-come = omega (arith, u.place, ap length (sym u.is) ∙ length-append u.done rest)

    pub same-room : length out ≡ length old
    same-room = same u.in-front

    -- a part more
    pub up-to-on : (bs more new : List ℕ) (n : ℕ) → rest ≡ bs ++ more → Written out size bs new → n ≡ size + length bs → UpTo new n more
    up-to-on bs more new n e w h =
        record {
          done = u.done ++ bs;
          is = append_assoc u.done bs more ∙ ap (λ (t : List ℕ). u.done ++ t) (sym e) ∙ u.is;
          in-front = then u.place u.in-front w;
          place = omega (arith, h, u.place, length-append u.done bs);
        }

    -- with room for the whole, what is copied as far as there is room is copied whole
    pub copied-whole : at + length whole ≤ length old → (bs more new : List ℕ) → rest ≡ bs ++ more → Written out size (take (length out - size) bs) new → Written out size bs new
    copied-whole room bs more new e w = written-whole bs (omega (arith, to-come, same-room, ap length e ∙ length-append bs more)) w

  pub part-written : (out : List ℕ) (size : ℕ) → UpTo out size [] → WritesPart old at whole out size
  part-written out size u =
      let e : whole ≡ u.done = sym u.is ∙ append-nil u.done in
      record { bytes-are = written-as whole e u.in-front; behind = u.place ∙ ap (λ (t : List ℕ). at + length t) (sym e) }

-- ---- a part, from tag to tag
module _ (text : List ℕ) (start stop : ℕ) (l : stop ≤ length text) (old : List ℕ) (at : ℕ) (room : at + length (replacedBetween text start stop) ≤ length old) where
  abbrev whole : List ℕ
  whole = replacedBetween text start stop

  module _ {out : List ℕ} {from size : ℕ} (u : UpTo old at whole out size (replacedBetween text from stop)) where
    -- a tag: what stands before it, and `&lt;`
    module _ {tag : ℕ} (t : TagAt text from stop tag) where
      abbrev passed : List ℕ
      passed = take (tag - from) (drop from text)

      abbrev more : List ℕ
      more = replacedBetween text (tag + 1) stop

      front-length : length passed ≡ tag - from
      front-length = between-length text stop l from tag t.passed.from t.passed.to

      splits : replacedBetween text from stop ≡ passed ++ (bytes "&lt;" ++ more)
      splits = t.passed.same ∙ ap (λ (s : List ℕ). passed ++ s) (at-tag text stop tag t.within l t.tag)

      pub room-here : size + (tag - from) + 4 ≤ length old
      room-here = omega (arith, to-come old at whole out size _ u, ap length splits ∙ length-append passed (bytes "&lt;" ++ more), front-length)

      pub tag-written : (mid new : List ℕ) → Written out size (take (length out - size) passed) mid
          → Written mid (size + (tag - from)) (take (length mid - (size + (tag - from))) (bytes "&lt;")) new → UpTo old at whole new (size + (tag - from) + 4) more
      tag-written mid new v w =
          let copied = copied-whole old at whole out size _ u room passed (bytes "&lt;" ++ more) mid splits v in
          let first = up-to-on old at whole out size _ u passed (bytes "&lt;" ++ more) mid (size + (tag - from)) splits copied (ap (λ (k : ℕ). size + k) (sym front-length)) in
          let entity = copied-whole old at whole mid (size + (tag - from)) _ first room (bytes "&lt;") more new refl w in
          up-to-on old at whole mid (size + (tag - from)) _ first (bytes "&lt;") more new (size + (tag - from) + 4) refl entity refl

    -- no more tags: the rest
    module _ (h : from ≤ stop) (e : replacedBetween text from stop ≡ take (stop - from) (drop from text)) where
      abbrev rest : List ℕ
      rest = take (stop - from) (drop from text)

      rest-is : replacedBetween text from stop ≡ rest ++ []
      rest-is = e ∙ sym (append-nil rest)

      rest-length : length rest ≡ stop - from
      rest-length = let q : stop ≤ stop = omega arith in between-length text stop l from stop h q

      pub room-behind : size + (stop - from) ≤ length old
      room-behind = omega (arith, to-come old at whole out size _ u, ap length e, rest-length)

      pub rest-written : (new : List ℕ) → Written out size (take (length out - size) rest) new → WritesPart old at whole new (size + (stop - from))
      rest-written new v =
          let copied = copied-whole old at whole out size _ u room rest [] new rest-is v in
          part-written old at whole new (size + (stop - from)) (up-to-on old at whole out size _ u rest [] new (size + (stop - from)) rest-is copied (ap (λ (k : ℕ). size + k) (sym rest-length)))
