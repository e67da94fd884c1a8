-- The invariant: the scan goes on, and what is left of the run is the whole run.
use Rattle.std.proofs.Common.{◌≡◌, drop}
use Rattle.html.specs.TextMachine.{runOf}
use Rattle.reader.specs.declared.html_text.Status.TheVariants.{Going}
use Rattle.reader.proofs.html_text.run.Given as goal

abbrev pub invariant-loop-index : goal.invariant-loop-index
invariant-loop-index l =
    (l.scanner.status ≡ Going) × (runOf l.rules l.scanner.state l.scanner.size (drop l.index l.text) ≡ runOf l.rules l.initial.scanner.state l.initial.scanner.size (drop l.from l.text))
