-- What the answers over spans say.
use Rattle.rules.specs.Spans.{Part, part}
use Rattle.spans.specs.declared.stretch.Part.{Part as PartOf}

-- a part's first index and its length
abbrev pub partIs : PartOf → Part
partIs p = part p.start p.length
