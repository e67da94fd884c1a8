-- A piece as the code makes it: tags are replaced up to where its places end that can count, and the rest is copied.
use Rattle.std.proofs.Common.{◌≡◌, sym, ◌∙◌, ap, List, ◌++◌, ℕ, ◌+◌, ◌-◌, ◌<◌, ◌≤◌, arith, length, take, drop, length-append, length-drop, length-take-le}
use Rattle.lexical.specs.Buffer.{Written}
use Rattle.lexical.proofs.Stores.{then, same, written-as, written-whole}
use Rattle.tagfilter.specs.Part.{replacedBetween, countedStop, pieceBytes, WritesPart}
use Rattle.walk.specs.declared.pieces.Piece.{Piece}
use Rattle.tagfilter.proofs.Replaced.{end-some, end-to}

module _ (text : List ℕ) (p : Piece) (end : ℕ) (e : end ≡ countedStop p) (some : p.start < p.stop) (to : p.stop ≤ length text) where
  pub end-from : p.start ≤ end
  end-from = omega (arith, e, end-some p.block p.start p.stop some)

  pub end-within : end ≤ p.stop
  end-within = omega (arith, e, end-to p.block p.start p.stop some)

  abbrev part : List ℕ
  part = replacedBetween text p.start end

  abbrev rest : List ℕ
  rest = take (p.stop - end) (drop end text)

  bytes-are : pieceBytes text p ≡ part ++ rest
  bytes-are = ap (λ (k : ℕ). replacedBetween text p.start k ++ take (p.stop - k) (drop k text)) (sym e)

  rest-length : length rest ≡ p.stop - end
  rest-length = length-take-le (p.stop - end) (drop end text) (omega (arith, length-drop end text, end-within))

  sizes : length (pieceBytes text p) ≡ length part + (p.stop - end)
  sizes = ap length bytes-are ∙ length-append part rest ∙ ap (λ (k : ℕ). length part + k) rest-length

  pub piece-size : (n : ℕ) → n ≡ length part → n + (p.stop - end) ≡ length (pieceBytes text p)
  piece-size n h = ap (λ (k : ℕ). k + (p.stop - end)) h ∙ sym sizes

  -- ---- into a buffer that has room for it
  module _ (old : List ℕ) (at : ℕ) (room : at + length (pieceBytes text p) ≤ length old) where
    pub part-fits : at + length part ≤ length old
    part-fits = omega (arith, room, sizes)

    module _ (mid : List ℕ) (behind : ℕ) (w : WritesPart old at part mid behind) where
      pub rest-fits : behind + (p.stop - end) ≤ length old
      rest-fits = omega (arith, room, sizes, w.behind)

      pub piece-written : (new : List ℕ) → Written mid behind (take (length mid - behind) rest) new → WritesPart old at (pieceBytes text p) new (behind + (p.stop - end))
      piece-written new v =
          let copied = written-whole rest (omega (arith, rest-fits, rest-length, same w.bytes-are)) v in
          record {
            bytes-are = written-as (pieceBytes text p) bytes-are (then w.behind w.bytes-are copied);
            behind = omega (arith, w.behind, sizes);
          }
