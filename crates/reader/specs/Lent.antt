-- The steps that take a state lent: the machines of the core over a state in one struct. They need not be believed: the contracts of the runs do not cite them.
use Rattle.std.specs.Prelude.{ℕ}
use Rattle.rules.specs.declared.Rules.{Rules}
use Rattle.html.specs.TextMachine.{stepOf}
use Rattle.html.specs.declared.tokenizer.StateName.{StateName}
use Rattle.html.specs.declared.tokenizer.State.{State}
use Rattle.html.specs.declared.tokenizer.State.TheVariants as state
use Rattle.flow.specs.ContinuationMachine.{nextOf}
use Rattle.flow.specs.declared.html_flow.Kind.{Kind}
use Rattle.flow.specs.declared.html_flow.ContinuationName.{ContinuationName}
use Rattle.reader.specs.declared.html_text.Scanner.{Scanner}
use Rattle.reader.specs.declared.html_text.Status.{Status}
use Rattle.reader.specs.declared.html_text.Status.TheVariants.{Going, Ok, Nok}
use Rattle.reader.specs.declared.html_flow.Line.{Line}

abbrev pub scanner : StateName → ℕ → Status → Scanner
scanner s k e = record { state = s; size = k; status = e }

-- what a state's answer makes of the state and size that gave it
abbrev pub putOf : StateName → ℕ → State → Scanner
putOf s k (state.Next s' k') = scanner s' k' Going
putOf s k state.Ok = scanner s k Ok
putOf s k state.Nok = scanner s k Nok

-- a scan that has ended stays as it is
abbrev pub whileGoing : Status → Scanner → Scanner → Scanner
whileGoing Going after before = after
whileGoing Ok after before = before
whileGoing Nok after before = before

unfoldable pub scannerOf : Rules → Scanner → ℕ → Scanner
scannerOf ρ s b = whileGoing s.status (putOf s.state s.size (stepOf ρ s.state s.size b)) s

abbrev pub line : Kind → ContinuationName → Line
line κ s = record { kind = κ; name = s }

unfoldable pub lineOf : Rules → Line → ℕ → Line
lineOf ρ l b = line l.kind (nextOf ρ l.kind l.name b)
