-- A list of spans, taken from its front. It need not be believed: no public contract cites it.
use Rattle.std.specs.Prelude.{◌≡◌, List, ◌∷◌, ℕ, ◌<◌, length, Option, Some, None}
use denote.Ref.{Bor}
use Rattle.spans.specs.declared.list.Span.{Span}

-- the first three numbers, and those behind them; or there are fewer
abbrev pub FirstSpan : List ℕ → Option (Span × Bor (List ℕ)) → Type 0
FirstSpan list (Some (s, rest)) = list ≡ s.start ∷ (s.stop ∷ (s.sort ∷ rest.now))
FirstSpan list None = length list < 3
