-- The filter is an output that goes by pieces, so what the law of the walk says of any such output holds of its length and its bytes.
use Rattle.std.proofs.Common.{List, ℕ, length, drop}
use Rattle.rules.specs.Filter.{replaced}
use Rattle.walk.proofs.Replacing.{Replacing}
use Rattle.tagfilter.specs.Part.{pieceBytes}
use Rattle.tagfilter.proofs.Replaced.{replaced-none, replaced-next}

abbrev pub filtering : (text : List ℕ) → Replacing text
filtering text =
    record {
      ahead = λ i ps. replaced i ps (drop i text);
      in-place = pieceBytes text;
      by-piece = λ i p ps o. replaced-next text i (length text) p ps o;
      by-none = λ i. replaced-none i (drop i text);
    }
