-- Private whole lines among the lines of a bulletin. Behind an LF the lines begin anew, so what stands before the private lines does not depend on them; each
-- of them is a line with the LF before it, and the last one's LF leads to the line behind them.
use Rattle.std.proofs.Common.{◌≡◌, refl, sym, ◌∙◌, ap, Bool, true, false, List, [], ◌∷◌, ◌++◌, append_assoc, ℕ, suc, ◌+◌, ◌<◌, ◌≤◌, arith, eqb, length, length-append}
use Rattle.std.proofs.lemmas.Bool.{and_parts}
use Rattle.lexical.specs.Text.{byte, bytes}
use Rattle.lexical.specs.Name.{all}
use Rattle.lexical.proofs.Cases.{excluded}
use Rattle.rules.specs.Search.{choose}
use Rattle.rules.specs.Lines.{Line, line, push, cutLines, flagged, linesOf}
use Rattle.rules.specs.Private.{isPrivate, linesText, LinesSwap}
use Rattle.rules.proofs.LineLaws.{no-flags, sizes, flagged-size}

-- ---- behind an LF the lines begin anew
-- the lines g s, where s stands behind n bytes
record Anew (n : ℕ) (g : List ℕ → List Line) : Type 0 where
  earlier : List Line
  lead : List ℕ
  position : sizes earlier + length lead ≡ n
  some : 0 < length lead
  is : (s : List ℕ) → g s ≡ earlier ++ cutLines false lead s

-- with a line before
record AnewLine (n : ℕ) (g : List ℕ → List Line) : Type 0 where
  head : Line
  earlier : List Line
  lead : List ℕ
  position : sizes (head ∷ earlier) + length lead ≡ n
  some : 0 < length lead
  is : (s : List ℕ) → g s ≡ head ∷ (earlier ++ cutLines false lead s)

weaken : (n : ℕ) (g : List ℕ → List Line) → AnewLine n g → Anew n g
weaken n g p = record { earlier = p.head ∷ p.earlier; lead = p.lead; position = p.position; some = p.some; is = p.is }

line-choose : (b : Bool) (n : ℕ) (g h : List ℕ → List Line) → AnewLine n g → AnewLine n h → AnewLine n (λ s. choose b (λ _. g s) (λ _. h s))
line-choose true n g h p q = p
line-choose false n g h p q = q

anew-choose : (b : Bool) (n : ℕ) (g h : List ℕ → List Line) → Anew n g → Anew n h → Anew n (λ s. choose b (λ _. g s) (λ _. h s))
anew-choose true n g h p q = p
anew-choose false n g h p q = q

line-cons : (l : Line) (n k : ℕ) (g : List ℕ → List Line) → length l.lead + length l.content + k ≡ n → Anew k g → AnewLine n (λ s. l ∷ g s)
line-cons l n k g e p =
    record { head = l; earlier = p.earlier; lead = p.lead; position = omega (arith, p.position); some = p.some; is = λ s. ap (λ (ls : List Line). l ∷ ls) (p.is s) }

line-push : (x n k : ℕ) (g : List ℕ → List Line) → suc k ≡ n → AnewLine k g → AnewLine n (λ s. push x (g s))
line-push x n k g e p =
    record {
      head = line p.head.flag p.head.lead (x ∷ p.head.content);
      earlier = p.earlier;
      lead = p.lead;
      position = omega (arith, p.position);
      some = p.some;
      is = λ s. ap (push x) (p.is s);
    }

base : (lead : List ℕ) → 0 < length lead → Anew (length lead) (λ s. cutLines false lead s)
base lead h = record { earlier = []; lead = lead; position = omega arith; some = h; is = λ s. refl }

anew-at : (n k : ℕ) (g : List ℕ → List Line) → n ≡ k → Anew n g → Anew k g
anew-at n k g e p = rw (sym e) p

-- not behind a CR, and behind one
anew : (b ending : List ℕ) → AnewLine (length ending + suc (length b)) (λ s. cutLines false ending ((b ++ (byte "\n" ∷ [])) ++ s)) × (length ending ≡ 1 → Anew (length ending + suc (length b)) (λ s. cutLines true ending ((b ++ (byte "\n" ∷ [])) ++ s)))
unfolding cutLines
anew [] ending =
    (line-cons (line 0 ending []) (length ending + 1) 1 _ (omega arith) (base (bytes "\n") (omega arith)), (λ e. anew-at 2 (length ending + 1) _ (omega arith) (base (bytes "\r\n") (omega arith))))
anew (x ∷ xs) ending =
    let n = length ending + suc (length (x ∷ xs)) in
    let here =
    line-choose (eqb x (byte "\r")) n _ _ (line-cons (line 0 ending []) n (1 + suc (length xs)) _ (omega arith) ((anew xs (bytes "\r")).1 refl)) (line-push x n (length ending + suc (length xs)) _ (omega arith) (anew xs ending).0) in (
      line-choose (eqb x (byte "\n")) n _ _ (line-cons (line 0 ending []) n (1 + suc (length xs)) _ (omega arith) (weaken _ _ (anew xs (bytes "\n")).0)) here,
      (λ e. anew-choose (eqb x (byte "\n")) n _ _ (anew-at (2 + suc (length xs)) n _ (omega arith) (weaken _ _ (anew xs (bytes "\r\n")).0)) (weaken n _ here)),
    )

-- ---- private lines
abbrev privates : List ℕ → List (List ℕ) → List Line
privates lead [] = []
privates lead (c ∷ cs) = line 0 lead c ∷ privates (bytes "\n") cs

abbrev lastLead : List ℕ → List (List ℕ) → List ℕ
lastLead lead [] = lead
lastLead lead (c ∷ cs) = lastLead (bytes "\n") cs

one-line : (c lead u : List ℕ) → all isPrivate c ≡ true → cutLines false lead (c ++ (byte "\n" ∷ u)) ≡ line 0 lead c ∷ cutLines false (bytes "\n") u
unfolding cutLines all
one-line [] lead u h = refl
one-line (x ∷ xs) lead u h =
    let p = (and_parts (isPrivate x) (all isPrivate xs) h).0 in
    rw (excluded isPrivate (byte "\n") x refl p, excluded isPrivate (byte "\r") x refl p, one-line xs lead u (and_parts (isPrivate x) (all isPrivate xs) h).1)

cut-privates : (cs : List (List ℕ)) (lead s : List ℕ) → all (all isPrivate) cs ≡ true → cutLines false lead (linesText cs ++ s) ≡ privates lead cs ++ cutLines false (lastLead lead cs) s
unfolding all
cut-privates [] lead s h = refl
cut-privates (c ∷ cs) lead s h =
    rw (append_assoc c (byte "\n" ∷ linesText cs) s)
    (one-line c lead (linesText cs ++ s) (and_parts (all isPrivate c) (all (all isPrivate) cs) h).0
    ∙ ap (λ (ls : List Line). line 0 lead c ∷ ls) (cut-privates cs (bytes "\n") s (and_parts (all isPrivate c) (all (all isPrivate) cs) h).1))

last-same : (lead : List ℕ) (cs ds : List (List ℕ)) → length cs ≡ length ds → lastLead lead cs ≡ lastLead lead ds
last-same lead [] [] e = refl
last-same lead [] (d ∷ ds) e = absurd (omega arith)
last-same lead (c ∷ cs) [] e = absurd (omega arith)
last-same lead (c ∷ cs) (d ∷ ds) e = last-same (bytes "\n") cs ds (omega arith)

-- ---- the bytes of private lines, each with the LF before it
abbrev pub ledText : List (List ℕ) → List ℕ
ledText [] = []
ledText (c ∷ cs) = byte "\n" ∷ (c ++ ledText cs)

pub led-is : (cs : List (List ℕ)) → byte "\n" ∷ linesText cs ≡ ledText cs ++ (byte "\n" ∷ [])
led-is [] = refl
led-is (c ∷ cs) = ap (λ (l : List ℕ). byte "\n" ∷ l) (ap (λ (l : List ℕ). c ++ l) (led-is cs) ∙ sym (append_assoc c (ledText cs) (byte "\n" ∷ [])))

privates-size : (cs : List (List ℕ)) → sizes (privates (bytes "\n") cs) ≡ length (ledText cs)
privates-size [] = refl
privates-size (c ∷ cs) = let e = privates-size cs in omega (arith, length-append c (ledText cs))

-- ---- flags
abbrev flagsLeft : List ℕ → List Line → List ℕ
flagsLeft fs [] = fs
flagsLeft [] (l ∷ ls) = []
flagsLeft (f ∷ fs) (l ∷ ls) = flagsLeft fs ls

flagged-append : (fs : List ℕ) (a b : List Line) → flagged fs (a ++ b) ≡ flagged fs a ++ flagged (flagsLeft fs a) b
unfolding flagged
flagged-append fs [] b = refl
flagged-append [] (l ∷ ls) b = rw (no-flags b)
flagged-append (f ∷ fs) (l ∷ ls) b = rw (flagged-append fs ls b)

left-same : (fs lead : List ℕ) (cs ds : List (List ℕ)) → length cs ≡ length ds → flagsLeft fs (privates lead cs) ≡ flagsLeft fs (privates lead ds)
left-same fs lead [] [] e = refl
left-same fs lead [] (d ∷ ds) e = absurd (omega arith)
left-same fs lead (c ∷ cs) [] e = absurd (omega arith)
left-same [] lead (c ∷ cs) (d ∷ ds) e = refl
left-same (f ∷ fs) lead (c ∷ cs) (d ∷ ds) e = left-same fs (bytes "\n") cs ds (omega arith)

-- lines of two bulletins, each private in both, with the same flag and the same ending before it
pub data Privates : List Line → List Line → Type 0 where
  no-more : Privates [] []
  one-more : (flag : ℕ) (lead c₁ c₂ : List ℕ) {one two : List Line} → all isPrivate c₁ ≡ true → all isPrivate c₂ ≡ true → Privates one two
      → Privates (line flag lead c₁ ∷ one) (line flag lead c₂ ∷ two)

flagged-privates : (fs lead : List ℕ) (cs ds : List (List ℕ)) → length cs ≡ length ds → all (all isPrivate) cs ≡ true → all (all isPrivate) ds ≡ true
    → Privates (flagged fs (privates lead cs)) (flagged fs (privates lead ds))
unfolding flagged all
flagged-privates fs lead [] [] e h k = no-more
flagged-privates fs lead [] (d ∷ ds) e h k = absurd (omega arith)
flagged-privates fs lead (c ∷ cs) [] e h k = absurd (omega arith)
flagged-privates [] lead (c ∷ cs) (d ∷ ds) e h k =
    rw (sym (no-flags (privates (bytes "\n") cs)), sym (no-flags (privates (bytes "\n") ds)))
    (one-more 0 lead c d (and_parts (all isPrivate c) (all (all isPrivate) cs) h).0 (and_parts (all isPrivate d) (all (all isPrivate) ds) k).0 (flagged-privates [] (bytes "\n") cs ds (omega arith) (and_parts (all isPrivate c) (all (all isPrivate) cs) h).1 (and_parts (all isPrivate d) (all (all isPrivate) ds) k).1))
flagged-privates (f ∷ fs) lead (c ∷ cs) (d ∷ ds) e h k =
    one-more f lead c d (and_parts (all isPrivate c) (all (all isPrivate) cs) h).0 (and_parts (all isPrivate d) (all (all isPrivate) ds) k).0 (flagged-privates fs (bytes "\n") cs ds (omega arith) (and_parts (all isPrivate c) (all (all isPrivate) cs) h).1 (and_parts (all isPrivate d) (all (all isPrivate) ds) k).1)

-- ---- the lines of two bulletins that differ in private lines, of which there are some
abbrev pub firstLead : List Line → ℕ
firstLead [] = 0
firstLead (l ∷ ls) = length l.lead

flagged-lead : (fs : List ℕ) (l : Line) (ls back : List Line) → firstLead (flagged fs (l ∷ ls) ++ back) ≡ length l.lead
unfolding flagged
flagged-lead [] l ls back = refl
flagged-lead (f ∷ fs) l ls back = refl

pub record LineStretch (flags : List ℕ) {one two : List ℕ} (d : LinesSwap one two) : Type 0 where
  pub front : List Line
  pub stretch₁ : List Line
  pub stretch₂ : List Line
  pub back : List Line
  pub both : Privates stretch₁ stretch₂
  pub starts : sizes front ≤ length d.before
  pub led : suc (length d.before) ≤ sizes front + firstLead (stretch₁ ++ back)
  pub ends₁ : sizes front + sizes stretch₁ ≡ length d.before + length (ledText d.lines₁)
  pub ends₂ : sizes front + sizes stretch₂ ≡ length d.before + length (ledText d.lines₂)
  pub one-is : linesOf flags one ≡ front ++ (stretch₁ ++ back)
  pub two-is : linesOf flags two ≡ front ++ (stretch₂ ++ back)

-- how many bytes the private lines have, by the ending that leads to the first
stretch-size : (fs lead : List ℕ) (cs : List (List ℕ)) → 0 < length cs → suc (sizes (flagged fs (privates lead cs))) ≡ length lead + length (ledText cs)
stretch-size fs lead [] h = absurd (omega arith)
stretch-size fs lead (c ∷ cs) h = omega (arith, flagged-size fs (privates lead (c ∷ cs)), privates-size cs, length-append c (ledText cs))

stretch-lead : (fs lead : List ℕ) (cs : List (List ℕ)) (back : List Line) → 0 < length cs → firstLead (flagged fs (privates lead cs) ++ back) ≡ length lead
stretch-lead fs lead [] back h = absurd (omega arith)
stretch-lead fs lead (c ∷ cs) back h = flagged-lead fs (line 0 lead c) (privates (bytes "\n") cs) back

pub line-stretch : (flags : List ℕ) {one two : List ℕ} (d : LinesSwap one two) → 0 < length d.lines₁ → LineStretch flags d
unfolding linesOf
line-stretch flags d some =
    let w = (anew d.before []).0 in
    let e = w.head ∷ w.earlier in
    let fs = flagsLeft flags e in
    let lead = w.lead in
    let one = d.lines₁ in
    let two = d.lines₂ in
    let cut-at : (cs : List (List ℕ)) → all (all isPrivate) cs ≡ true → flagged flags (cutLines false [] ((d.before ++ (byte "\n" ∷ [])) ++ (linesText cs ++ d.after))) ≡ flagged flags e ++ (flagged fs (privates lead cs) ++ flagged (flagsLeft fs (privates lead cs)) (cutLines false (lastLead lead cs) d.after)) =
    λ cs h.
    ap (flagged flags) (w.is (linesText cs ++ d.after) ∙ ap (λ (ls : List Line). e ++ ls) (cut-privates cs lead d.after h))
    ∙ flagged-append flags e (privates lead cs ++ cutLines false (lastLead lead cs) d.after)
    ∙ ap (λ (ls : List Line). flagged flags e ++ ls) (flagged-append fs (privates lead cs) (cutLines false (lastLead lead cs) d.after)) in
    let back = flagged (flagsLeft fs (privates lead one)) (cutLines false (lastLead lead one) d.after) in
    let size : sizes (flagged flags e) ≡ sizes e = flagged-size flags e in
    let position : sizes e + length lead ≡ suc (length d.before) = omega (arith, w.position) in
    let more : 0 < length lead = w.some in
    record {
      front = flagged flags e;
      stretch₁ = flagged fs (privates lead one);
      stretch₂ = flagged fs (privates lead two);
      back = back;
      both = flagged-privates fs lead one two d.same-number d.private₁ d.private₂;
      starts = omega arith;
      led = omega (arith, stretch-lead fs lead one back some);
      ends₁ = omega (arith, stretch-size fs lead one some);
      ends₂ = omega (arith, stretch-size fs lead two (omega (arith, d.same-number)));
      one-is = ap (λ (t : List ℕ). flagged flags (cutLines false [] t)) d.one-is ∙ cut-at one d.private₁;
      two-is =
          rw (left-same fs lead one two d.same-number, last-same lead one two d.same-number)
          (ap (λ (t : List ℕ). flagged flags (cutLines false [] t)) d.two-is ∙ cut-at two d.private₂);
    }
