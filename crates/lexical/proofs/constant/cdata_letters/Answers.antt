use Rattle.std.proofs.Common.{◌≡◌, ℕ, ◌+◌, ◌-◌, min, List, length, take, drop, sym, ap, ◌∙◌, arith, length-drop, take_all, rules, tests}
use Rattle.std.proofs.lemmas.Iterator.{YieldsList-from_slice, YieldsList-from_zip}
use Rattle.std.proofs.lemmas.Iterator.Consumers.{YieldsList-at, count_from_yields_List}
use Rattle.std.proofs.lemmas.Iterator.Search.{YieldsList-from_take_while}
use Rattle.std.proofs.lemmas.List.Folds.{length-prefix_len}
use Rattle.std.specs.List.{zip}
use Rattle.lexical.specs.Name.{cdataPrefix, matched, cdataLetters}
use Rattle.lexical.proofs.Prefix.{alike, matched-pairs, cdata-size, drop-least, matched-most}
use Rattle.lexical.proofs.constant.cdata_letters.Goals as goal

pub slice_bounds-letters-count : goal.slice_bounds-letters-count
slice_bounds-letters-count c = omega (arith, c.min.ensures, ap length c.cdata_prefix.ensures, cdata-size)

pub slice_bounds-letters-start : goal.slice_bounds-letters-start
slice_bounds-letters-start c = omega (arith, c.min.ensures, ap length c.cdata_prefix.ensures, cdata-size)

-- the bytes from an index on, which goes no further than to the end
least : (s : List ℕ) (k m : ℕ) → m ≡ min k (length s) → take (length s - m) (drop m s) ≡ drop k s
least s k m e = take_all (length s - m) (drop m s) (omega (arith, length-drop m s)) ∙ ap (λ n. drop n s) e ∙ drop-least s k

-- the prefix as the code has it
behind-least : (p : List ℕ) (k m : ℕ) → p ≡ cdataPrefix → m ≡ min k 6 → take (length p - m) (drop m p) ≡ drop k cdataPrefix
behind-least p k m e n = ap (λ q. take (length q - m) (drop m q)) e ∙ least cdataPrefix k m (n ∙ ap (min k) (sym cdata-size))

-- how many pairs are alike
same : (c : goal.After-count) → c.count.result ≡ matched (drop c.args.carry cdataPrefix) (drop c.args.index c.args.bytes.now)
same c = let a = c.args in
    let letters = drop a.carry cdataPrefix in
    let rest = drop a.index a.bytes.now in
    let zipped = YieldsList-from_zip (YieldsList-at c.zip.ensures.first (YieldsList-from_slice letters (c.iter.ensures.rest ∙ behind-least _ _ _ c.cdata_prefix.ensures c.min.ensures))) (YieldsList-at c.zip.ensures.second (YieldsList-from_slice rest (c.iter-2.ensures.rest ∙ least _ _ _ c.min-2.ensures))) in
    count_from_yields_List c.take_while-same.result _ c.count.ensures.ran
    (YieldsList-from_take_while _ alike (YieldsList-at c.take_while-same.ensures.source zipped) c.take_while-same.ensures.closure c.take_while-same.ensures.done (λ x b q k. search (rules, tests)))
    ∙ length-prefix_len alike (zip letters rest)
    ∙ matched-pairs letters rest

pub overflow_add-result : goal.overflow_add-result
overflow_add-result c = omega (arith, same c, matched-most (drop c.args.carry cdataPrefix) (drop c.args.index c.args.bytes.now), length-drop c.args.carry cdataPrefix, cdata-size)

pub returns : goal.returns
unfolding cdataLetters
returns c = ap (λ n. c.args.carry + n) (same c)
