-- What is known of the closers ahead, and what reading finds. Reading an opening of one of the four forms is a search for its closer from its third byte on or
-- later, so where none lies behind its first byte, it finds none. Where it finds none, none lies behind its second byte: no closer begins in those bytes of the
-- opening that the search leaves out. And what a text does not hold, no end of it holds.
use Rattle.std.proofs.Common.{◌≡◌, refl, sym, ◌∙◌, ap, subst, true, false, List, [], ◌∷◌, ◌++◌, ℕ, zero, suc, ◌+◌, arith, length, drop, drop-drop}
use Rattle.std.proofs.lemmas.Bool.{and_parts}
use Rattle.lexical.specs.Text.{byte, bytes, first}
use Rattle.lexical.specs.Byte.{isLetter}
use Rattle.lexical.specs.Name.{cdataPrefix}
use Rattle.lexical.proofs.Cases.{split, clash, excluded}
use Rattle.rules.specs.Search.{choose, begins, Left, left, nothing, throughFirst}
use Rattle.rules.specs.Inline.{lacks, prefix, carrying, keeping, rawHtml, readInline}
use Rattle.rules.specs.declared.Rules.{Rules}
use Rattle.rules.proofs.Comment.{begins-is, comment-is}
use Rattle.html.proofs.TextMeans.{comment-tag, declaration-tag, instruction-tag}
use Rattle.walk.specs.Closer.{isDeclaration, formOf, isAhead, without, closerOf, allAhead, Known}
use Rattle.walk.specs.declared.closers.Form.{Form}
use Rattle.walk.specs.declared.closers.Form.TheVariants.{Comment, Instruction, Declaration, Cdata, Other}
use Rattle.walk.specs.declared.closers.Closers.{Closers}
use Rattle.walk.proofs.Forms.{form-instruction, form-comment, form-cdata, form-declaration, form-other}

-- ---- what is known stays known
none-tail : (p : List ℕ) (x : ℕ) (s : List ℕ) → throughFirst p (x ∷ s) ≡ nothing → throughFirst p s ≡ nothing
unfolding throughFirst
none-tail p x s h =
    split (begins p (x ∷ s)) (λ b. let z : left (drop (length p) (x ∷ s)) ≡ nothing = rw b at h in cc) (λ b. rw b at h)

none-drop : (p s : List ℕ) → throughFirst p s ≡ nothing → (n : ℕ) → throughFirst p (drop n s) ≡ nothing
none-drop p s h zero = h
none-drop p [] h (suc n) = h
none-drop p (x ∷ s) h (suc n) = none-drop p s (none-tail p x s h) n

pub known-drop : {c : Closers} {s : List ℕ} → Known c s → (n : ℕ) → Known c (drop n s)
known-drop {c} {s} k n =
    let e : drop n (drop 1 s) ≡ drop 1 (drop n s) = drop-drop n 1 s ∙ (let i : 1 + n ≡ n + 1 = omega arith in ap (λ m. drop m s) i) ∙ sym (drop-drop 1 n s) in
    record { none-ahead = λ f h. subst (λ t. throughFirst (closerOf f) t ≡ nothing) e (none-drop (closerOf f) (drop 1 s) (k.none-ahead f h) n) }

-- a fact of every form
each : (P : Form → Type 0) → P Comment → P Instruction → P Declaration → P Cdata → P Other → (f : Form) → P f
each P a b d e o Comment = a
each P a b d e o Instruction = b
each P a b d e o Declaration = d
each P a b d e o Cdata = e
each P a b d e o Other = o

abbrev Says : Closers → List ℕ → Form → Type 0
Says c s f = isAhead c f ≡ false → throughFirst (closerOf f) (drop 1 s) ≡ nothing

-- where a closer of every form may lie ahead, nothing is said
pub known-all : (c : Closers) → c ≡ allAhead → (s : List ℕ) → Known c s
known-all c e s = rw e (record { none-ahead = each (Says allAhead s) (clash true refl) (clash true refl) (clash true refl) (clash true refl) (clash true refl) })

-- one more form whose closer is not there
known-without : (c : Closers) (s : List ℕ) → Known c s → (f : Form) → throughFirst (closerOf f) (drop 1 s) ≡ nothing → Known (without c f) s
known-without c s k f n = record { none-ahead = told f n }
  where
    told : (f : Form) → throughFirst (closerOf f) (drop 1 s) ≡ nothing → (g : Form) → Says (without c f) s g
    told Comment n = each (Says (without c Comment) s) (λ h. n) (k.none-ahead Instruction) (k.none-ahead Declaration) (k.none-ahead Cdata) (k.none-ahead Other)
    told Instruction n = each (Says (without c Instruction) s) (k.none-ahead Comment) (λ h. n) (k.none-ahead Declaration) (k.none-ahead Cdata) (k.none-ahead Other)
    told Declaration n = each (Says (without c Declaration) s) (k.none-ahead Comment) (k.none-ahead Instruction) (λ h. n) (k.none-ahead Cdata) (k.none-ahead Other)
    told Cdata n = each (Says (without c Cdata) s) (k.none-ahead Comment) (k.none-ahead Instruction) (k.none-ahead Declaration) (λ h. n) (k.none-ahead Other)
    told Other n = k.none-ahead

-- ---- a text by the form of its opening
data Opening : List ℕ → Form → Type 0 where
  of-instruction : (t : List ℕ) → Opening (bytes "<?" ++ t) Instruction
  of-comment : (t : List ℕ) → Opening (bytes "<!--" ++ t) Comment
  of-cdata : (t : List ℕ) → Opening (bytes "<![CDATA[" ++ t) Cdata
  of-declaration : (l : ℕ) → isLetter l ≡ true → (t : List ℕ) → Opening (bytes "<!" ++ (l ∷ t)) Declaration
  of-other : (s : List ℕ) → Opening s Other

letter-first : (s : List ℕ) → isLetter (first s) ≡ true → s ≡ first s ∷ drop 1 s
letter-first [] h = cc
letter-first (x ∷ s) h = refl

declaration-opening : (s : List ℕ) → isDeclaration s ≡ true → Opening s Declaration
declaration-opening s h =
    let l : isLetter (first (drop 2 s)) ≡ true = (and_parts (begins (bytes "<!") s) (isLetter (first (drop 2 s))) h).1 in
    let e : s ≡ bytes "<!" ++ drop 2 s = begins-is (bytes "<!") s (and_parts (begins (bytes "<!") s) (isLetter (first (drop 2 s))) h).0 in
    let i : s ≡ bytes "<!" ++ (first (drop 2 s) ∷ drop 1 (drop 2 s)) = e ∙ ap (λ t. bytes "<!" ++ t) (letter-first (drop 2 s) l) in
    subst (λ t. Opening t Declaration) (sym i) (of-declaration (first (drop 2 s)) l (drop 1 (drop 2 s)))

opening : (s : List ℕ) → Opening s (formOf s)
opening s =
    split (begins (bytes "<?") s) (λ a. formed Instruction (form-instruction s a) (fronted (bytes "<?") Instruction a (of-instruction (drop 2 s))))
    (λ a. split (begins (bytes "<!--") s) (λ b. formed Comment (form-comment s a b) (fronted (bytes "<!--") Comment b (of-comment (drop 4 s))))
    (λ b. split (begins (bytes "<![CDATA[") s) (λ d. formed Cdata (form-cdata s a b d) (fronted (bytes "<![CDATA[") Cdata d (of-cdata (drop 9 s))))
    (λ d. split (isDeclaration s) (λ e. formed Declaration (form-declaration s a b d e) (declaration-opening s e)) (λ e. formed Other (form-other s a b d e) (of-other s)))))
  where
    formed : (f : Form) → formOf s ≡ f → Opening s f → Opening s (formOf s)
    formed f e o = subst (λ g. Opening s g) (sym e) o

    fronted : (p : List ℕ) (f : Form) → begins p s ≡ true → Opening (p ++ drop (length p) s) f → Opening s f
    fronted p f h o = subst (λ t. Opening t f) (sym (begins-is p s h)) o

-- ---- what reading finds at each
kept : (l : Left) → keeping 0 (carrying 0 l) ≡ carrying 0 l
kept (left s) = refl
kept nothing = refl

lacked : (l : Left) (k : ℕ) → carrying 0 l ≡ lacks k → l ≡ nothing
lacked (left s) k h = cc
lacked nothing k h = refl

module _ (ρ : Rules) where
  -- with T2 and without
  read-as : (s : List ℕ) (l : Left) → rawHtml ρ 0 s ≡ carrying 0 l → readInline ρ 0 s ≡ carrying 0 l
  unfolding readInline
  read-as s l e = rw e (split ρ.t2 (λ t. rw t refl) (λ t. rw t (kept l)))

  instruction-read : (t : List ℕ) → readInline ρ 0 (bytes "<?" ++ t) ≡ carrying 0 (throughFirst (bytes "?>") t)
  instruction-read t = read-as (bytes "<?" ++ t) (throughFirst (bytes "?>") t) (instruction-tag ρ 0 t)

  comment-raw : (t : List ℕ) → rawHtml ρ 0 (bytes "<!--" ++ t) ≡ carrying 0 (throughFirst (bytes "-->") (bytes "--" ++ t))
  unfolding rawHtml
  comment-raw t = ap (carrying 0) (comment-tag ρ (byte "-" ∷ t) ∙ comment-is (bytes "<!--" ++ t))

  comment-read : (t : List ℕ) → readInline ρ 0 (bytes "<!--" ++ t) ≡ carrying 0 (throughFirst (bytes "-->") (bytes "--" ++ t))
  comment-read t = read-as (bytes "<!--" ++ t) (throughFirst (bytes "-->") (bytes "--" ++ t)) (comment-raw t)

  cdata-raw : (t : List ℕ) → rawHtml ρ 0 (bytes "<![CDATA[" ++ t) ≡ carrying 0 (throughFirst (bytes "]]>") t)
  unfolding rawHtml prefix cdataPrefix
  cdata-raw t = refl

  cdata-read : (t : List ℕ) → readInline ρ 0 (bytes "<![CDATA[" ++ t) ≡ carrying 0 (throughFirst (bytes "]]>") t)
  cdata-read t = read-as (bytes "<![CDATA[" ++ t) (throughFirst (bytes "]]>") t) (cdata-raw t)

  declaration-read : (l : ℕ) → isLetter l ≡ true → (t : List ℕ) → readInline ρ 0 (bytes "<!" ++ (l ∷ t)) ≡ carrying 0 (throughFirst (bytes ">") t)
  declaration-read l h t =
      let e = declaration-tag ρ 0 l t (excluded isLetter (byte "-") l refl h) (excluded isLetter (byte "[") l refl h) in
      read-as (bytes "<!" ++ (l ∷ t)) (throughFirst (bytes ">") t) (e ∙ ap (λ b. carrying 0 (choose b (λ _. throughFirst (bytes ">") t) (λ _. nothing))) h)

  -- an opening whose closer is known to be missing finds none
  missing : (c : Closers) {s : List ℕ} {f : Form} → Opening s f → Known c s → isAhead c f ≡ false → readInline ρ 0 s ≡ lacks 0
  missing c (of-instruction t) k h = instruction-read t ∙ ap (carrying 0) (none-drop (bytes "?>") (byte "?" ∷ t) (k.none-ahead Instruction h) 1)
  missing c (of-comment t) k h = comment-read t ∙ ap (carrying 0) (none-drop (bytes "-->") (bytes "!--" ++ t) (k.none-ahead Comment h) 1)
  missing c (of-cdata t) k h = cdata-read t ∙ ap (carrying 0) (none-drop (bytes "]]>") (bytes "![CDATA[" ++ t) (k.none-ahead Cdata h) 8)
  missing c (of-declaration l e t) k h = declaration-read l e t ∙ ap (carrying 0) (none-drop (bytes ">") (byte "!" ∷ l ∷ t) (k.none-ahead Declaration h) 2)
  missing c (of-other s) k h = clash true refl h

  pub unread : (c : Closers) (s : List ℕ) → Known c s → isAhead c (formOf s) ≡ false → readInline ρ 0 s ≡ lacks 0
  unread c s k h = missing c (opening s) k h

  -- where an opening finds none, no closer of its form lies behind its second byte
  none-found : (c : Closers) (k : ℕ) {s : List ℕ} {f : Form} → Opening s f → Known c s → readInline ρ 0 s ≡ lacks k → Known (without c f) (drop 1 s)
  unfolding throughFirst
  none-found c k (of-instruction t) known h =
      known-without c (byte "?" ∷ t) (known-drop known 1) Instruction (lacked (throughFirst (bytes "?>") t) k (sym (instruction-read t) ∙ h))
  none-found c k (of-comment t) known h =
      known-without c (bytes "!--" ++ t) (known-drop known 1) Comment (lacked (throughFirst (bytes "-->") (bytes "--" ++ t)) k (sym (comment-read t) ∙ h))
  none-found c k (of-cdata t) known h =
      known-without c (bytes "![CDATA[" ++ t) (known-drop known 1) Cdata (lacked (throughFirst (bytes "]]>") t) k (sym (cdata-read t) ∙ h))
  none-found c k (of-declaration l e t) known h =
      known-without c (byte "!" ∷ l ∷ t) (known-drop known 1) Declaration (rw (excluded isLetter (byte ">") l refl e) (lacked (throughFirst (bytes ">") t) k (sym (declaration-read l e t) ∙ h)))
  none-found c k (of-other s) known h = known-drop known 1

  pub forgone : (c : Closers) (s : List ℕ) (k : ℕ) → Known c s → readInline ρ 0 s ≡ lacks k → Known (without c (formOf s)) (drop 1 s)
  forgone c s k known h = none-found c k (opening s) known h
