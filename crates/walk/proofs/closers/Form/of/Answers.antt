use Rattle.std.proofs.Common.{sym, ◌∙◌}
use Rattle.lexical.specs.Text.{bytes}
use Rattle.walk.proofs.Forms.{begins-by, form-instruction, form-comment, form-cdata, form-declaration, form-other, form-by-two}
use Rattle.walk.proofs.closers.Form.of.Goals as goal

pub returns-then-starts_with : goal.returns-then-starts_with
returns-then-starts_with c = let s = c.args.text.now in sym (form-instruction s (begins-by (bytes "<?") s c.starts_with.ensures.value c.if-starts_with.true))

pub returns-then-not-starts_with : goal.returns-then-not-starts_with
returns-then-not-starts_with c = let s = c.args.text.now in
    sym (form-by-two s (begins-by (bytes "<?") s c.starts_with.ensures.value c.if-starts_with.false) (begins-by (bytes "<!") s c.starts_with-2.ensures.value c.if-not-starts_with.true))

pub returns-then-starts_with-2 : goal.returns-then-starts_with-2
returns-then-starts_with-2 c = let s = c.args.text.now in
    sym (form-comment s (begins-by (bytes "<?") s c.starts_with.ensures.value c.if-starts_with.false) (begins-by (bytes "<!--") s c.starts_with-3.ensures.value c.if-starts_with-2.true))

pub returns-then-starts_with-3 : goal.returns-then-starts_with-3
returns-then-starts_with-3 c = let s = c.args.text.now in
    sym (form-cdata s (begins-by (bytes "<?") s c.starts_with.ensures.value c.if-starts_with.false) (begins-by (bytes "<!--") s c.starts_with-3.ensures.value c.if-starts_with-2.false)
    (begins-by (bytes "<![CDATA[") s c.starts_with-4.ensures.value c.if-starts_with-3.true))

pub returns-then-is_declaration : goal.returns-then-is_declaration
returns-then-is_declaration c = let s = c.args.text.now in
    sym (form-declaration s (begins-by (bytes "<?") s c.starts_with.ensures.value c.if-starts_with.false) (begins-by (bytes "<!--") s c.starts_with-3.ensures.value c.if-starts_with-2.false)
    (begins-by (bytes "<![CDATA[") s c.starts_with-4.ensures.value c.if-starts_with-3.false) (sym c.is_declaration.ensures ∙ c.if-is_declaration.true))

pub returns : goal.returns
returns c = let s = c.args.text.now in
    sym (form-other s (begins-by (bytes "<?") s c.starts_with.ensures.value c.if-starts_with.false) (begins-by (bytes "<!--") s c.starts_with-3.ensures.value c.if-starts_with-2.false)
    (begins-by (bytes "<![CDATA[") s c.starts_with-4.ensures.value c.if-starts_with-3.false) (sym c.is_declaration.ensures ∙ c.if-is_declaration.false))
