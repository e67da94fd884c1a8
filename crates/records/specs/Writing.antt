-- What writing a record leaves of a buffer. It need not be believed: of public contracts only those of `write_record`, `write_event` and `write_last` cite it.
use Rattle.std.specs.Prelude.{ℕ, ◌+◌, List, [], leb, length}
use Rattle.rules.specs.Search.{choose}

-- of bytes that are to stand at an index, all of them where there is room, else none
unfoldable pub placed : ℕ → ℕ → List ℕ → List ℕ
placed room at bs = choose (leb (at + length bs) room) (λ _. bs) (λ _. [])
