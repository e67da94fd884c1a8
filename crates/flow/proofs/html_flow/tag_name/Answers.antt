-- Each return is one outcome of the tests; the name and what follows it are those of the rules.
use Rattle.std.proofs.Common.{refl, sym, ◌∙◌}
use Rattle.flow.proofs.OpenSteps.{first-test}
use Rattle.flow.proofs.NameSteps.{raw-here, raw-place-here, block-at, block-here, block-named, no-break, raw-name, block-name, other-name}
use Rattle.flow.proofs.html_flow.tag_name.Goals as goal

pub returns-then-not-is_name_break : goal.returns-then-not-is_name_break
returns-then-not-is_name_break c = let a = c.args in
    record { kind = sym (no-break a.line.now a.at _ c.name_end-end.ensures a.rules a.flag a.closing (sym c.is_name_break.ensures ∙ c.if-not-is_name_break.true)); names = refl }

pub returns-then-is_raw-closing : goal.returns-then-is_raw-closing
returns-then-is_raw-closing c = let a = c.args in
    let raw = raw-here a.line.now a.at _ c.name_end-end.ensures _ c.from_indices-name.ensures _ c.raw_place-raw.ensures ∙ sym c.is_some-is_raw.ensures in
    let slash = first-test c.peek.result a.line.now c.name_end-end.result c.peek.ensures 47 refl _ c.eq-slash.ensures in
    record {
      kind = sym (raw-name a.line.now a.at _ c.name_end-end.ensures a.rules a.flag a.closing _ _ (sym c.is_name_break.ensures ∙ c.if-not-is_name_break.false) raw slash c.if-is_raw-closing.true);
      names = raw-place-here a.line.now a.at _ c.name_end-end.ensures _ c.from_indices-name.ensures _ c.raw_place-raw.ensures;
    }

pub returns-then-slash : goal.returns-then-slash
returns-then-slash c = let a = c.args in
    let raw = raw-here a.line.now a.at _ c.name_end-end.ensures _ c.from_indices-name.ensures _ c.raw_place-raw.ensures ∙ sym c.is_some-is_raw.ensures in
    let slash = first-test c.peek.result a.line.now c.name_end-end.result c.peek.ensures 47 refl _ c.eq-slash.ensures in
    record {
      kind = c.basic_self_closing.ensures.kind
          ∙ sym (block-name a.line.now a.at _ c.name_end-end.ensures a.rules a.flag a.closing _ _ (sym c.is_name_break.ensures ∙ c.if-not-is_name_break.false) raw slash c.if-is_raw-closing.false (block-here a.line.now a.at _ c.name_end-end.ensures _ c.from_indices-name.ensures _ c.block_place-basic.ensures ∙ sym c.is_some.ensures ∙ c.if-is_some.true) ∙ rw c.if-slash.true);
      names = c.basic_self_closing.ensures.names_basic _ (block-at a.line.now a.at _ c.name_end-end.ensures _ c.from_indices-name.ensures _ c.block_place-basic.ensures);
    }

pub returns-then-is_some : goal.returns-then-is_some
returns-then-is_some c = let a = c.args in
    let raw = raw-here a.line.now a.at _ c.name_end-end.ensures _ c.from_indices-name.ensures _ c.raw_place-raw.ensures ∙ sym c.is_some-is_raw.ensures in
    let slash = first-test c.peek.result a.line.now c.name_end-end.result c.peek.ensures 47 refl _ c.eq-slash.ensures in
    record {
      kind = sym (block-name a.line.now a.at _ c.name_end-end.ensures a.rules a.flag a.closing _ _ (sym c.is_name_break.ensures ∙ c.if-not-is_name_break.false) raw slash c.if-is_raw-closing.false (block-here a.line.now a.at _ c.name_end-end.ensures _ c.from_indices-name.ensures _ c.block_place-basic.ensures ∙ sym c.is_some.ensures ∙ c.if-is_some.true) ∙ rw c.if-slash.false);
      names = block-named _ _ (block-at a.line.now a.at _ c.name_end-end.ensures _ c.from_indices-name.ensures _ c.block_place-basic.ensures);
    }

pub returns : goal.returns
returns c = let a = c.args in
    let raw = raw-here a.line.now a.at _ c.name_end-end.ensures _ c.from_indices-name.ensures _ c.raw_place-raw.ensures ∙ sym c.is_some-is_raw.ensures in
    let slash = first-test c.peek.result a.line.now c.name_end-end.result c.peek.ensures 47 refl _ c.eq-slash.ensures in
    record {
      kind = c.complete.ensures.kind
          ∙ sym (other-name a.line.now a.at _ c.name_end-end.ensures a.rules a.flag a.closing _ _ (sym c.is_name_break.ensures ∙ c.if-not-is_name_break.false) raw slash c.if-is_raw-closing.false (block-here a.line.now a.at _ c.name_end-end.ensures _ c.from_indices-name.ensures _ c.block_place-basic.ensures ∙ sym c.is_some.ensures ∙ c.if-is_some.false));
      names = c.complete.ensures.unnamed _;
    }
