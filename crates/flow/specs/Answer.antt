-- What the answers of the block scan say, by the numbers and values of SCOPE for each case.
use Rattle.std.specs.Prelude.{ℕ, Option, Some, None, Result, Ok, Err, is_some, unwrap_or}
use Rattle.lexical.specs.Name.{unnamed}
use Rattle.rules.specs.Refusal.{refusalNumber}
use Rattle.rules.specs.Scan.{found, BlockAnswer, foundBlock, noBlock, refusedBlock}
use Rattle.rules.specs.declared.refusal.Refusal.{Refusal}
use Rattle.flow.specs.declared.html_flow.Kind.{Kind}
use Rattle.flow.specs.declared.html_flow.Kind.TheVariants.{Raw, Comment, Instruction, Declaration, Cdata, Basic, Complete}
use Rattle.flow.specs.declared.block.Opening.{Opening}
use Rattle.flow.specs.declared.block.Block.{Block}

-- the number of a kind
abbrev pub kindNumber : Kind → ℕ
kindNumber Raw = 1
kindNumber Comment = 2
kindNumber Instruction = 3
kindNumber Declaration = 4
kindNumber Cdata = 5
kindNumber Basic = 6
kindNumber Complete = 7

-- the kind that a line opens, or 0
abbrev pub openingNumber : Option Opening → ℕ
openingNumber None = 0
openingNumber (Some o) = kindNumber o.kind

-- the place of its name
abbrev pub openingName : Option Opening → ℕ
openingName None = unnamed
openingName (Some o) = unwrap_or o.name unnamed

-- found with kind, name, stop, whether a closer was met and where it begins; or none
abbrev pub foundOf : Option Block → BlockAnswer
foundOf None = noBlock
foundOf (Some b) = foundBlock (found (kindNumber b.kind) (unwrap_or b.name unnamed) b.stop (is_some b.closer) (unwrap_or b.closer b.stop))

-- that, or a refusal with its number
abbrev pub blockAnswerOf : Result (Option Block) Refusal → BlockAnswer
blockAnswerOf (Ok b) = foundOf b
blockAnswerOf (Err r) = refusedBlock (refusalNumber r)
