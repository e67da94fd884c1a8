-- Inline raw HTML, CommonMark 0.31.2, 6.6, with T1 and T2. Each definition gives what is left behind what it names.
use Rattle.std.specs.Prelude.{ℕ, suc, ◌&&◌, List, [], ◌∷◌, eqb, drop}
use Rattle.lexical.specs.Text.{bytes, first}
use Rattle.lexical.specs.Byte.{isLetter}
use Rattle.lexical.specs.Name.{cdataPrefix}
use Rattle.rules.specs.Search.{choose, begins, Left, left, nothing, orElse, exactly, throughFirst, between}
use Rattle.rules.specs.Tag.{inlineTags, openTag, closingTag}
use Rattle.rules.specs.declared.Rules.{Rules}

-- an HTML comment: `<!-->`, `<!--->`, or `<!--`, a string not including `-->`, and `-->`
unfoldable pub comment : List ℕ → Left
comment s =
    orElse (exactly (bytes "<!-->") s)
    (λ _. orElse (exactly (bytes "<!--->") s) (λ _. between (bytes "<!--") (bytes "-->") s))

-- a processing instruction: `<?`, a string not including `?>`, and `?>`
unfoldable pub instruction : List ℕ → Left
instruction s = between (bytes "<?") (bytes "?>") s

-- a declaration: `<!`, a letter, a string not including `>`, and `>`
unfoldable pub declaration : List ℕ → Left
declaration s =
    choose (begins (bytes "<!") s && isLetter (first (drop 2 s))) (λ _. throughFirst (bytes ">") (drop 3 s)) (λ _. nothing)

-- an HTML tag that is no CDATA section
unfoldable pub htmlTag : Rules → List ℕ → Left
htmlTag ρ s =
    orElse (openTag (inlineTags ρ) s)
    (λ _. orElse (closingTag s) (λ _. orElse (comment s) (λ _. orElse (instruction s) (λ _. declaration s))))

-- how much of the CDATA prefix is there: the whole, with what is left behind it, or so many letters
pub data Prefix : Type 0 where
  whole : List ℕ → Prefix
  letters : ℕ → Prefix

-- k letters were counted before, and ps are to come
unfoldable pub prefix : ℕ → List ℕ → List ℕ → Prefix
prefix k [] s = whole s
prefix k (p ∷ ps) [] = letters k
prefix k (p ∷ ps) (x ∷ xs) = choose (eqb x p) (λ _. prefix (suc k) ps xs) (λ _. letters k)

-- what reading raw HTML finds: it, with what is left behind it and the carry, or none, with the carry
pub data Read : Type 0 where
  takes : List ℕ → ℕ → Read
  lacks : ℕ → Read

abbrev pub carrying : ℕ → Left → Read
carrying k (left s) = takes s k
carrying k nothing = lacks k

-- T2: a mismatch or the end of the text leaves the letters counted so far; six gives 0
abbrev pub cdataBody : Prefix → Read
cdataBody (letters k) = lacks k
cdataBody (whole s) = carrying 0 (throughFirst (bytes "]]>") s)

-- a CDATA section: `<![CDATA[`, a string not including `]]>`, and `]]>`; T2: the prefix is compared from the carry; all else leaves it
unfoldable pub rawHtml : Rules → ℕ → List ℕ → Read
rawHtml ρ k s =
    choose (begins (bytes "<![") s) (λ _. cdataBody (prefix k (drop k cdataPrefix) (drop 3 s))) (λ _. carrying k (htmlTag ρ s))

abbrev pub keeping : ℕ → Read → Read
keeping k (takes s c) = takes s k
keeping k (lacks c) = lacks k

-- without T2 the carry is neither read nor changed
unfoldable pub readInline : Rules → ℕ → List ℕ → Read
readInline ρ k s = choose ρ.t2 (λ _. rawHtml ρ k s) (λ _. keeping k (rawHtml ρ 0 s))
