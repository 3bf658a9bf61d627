use Rattle.std.proofs.Common.{sym, ◌∙◌}
use Rattle.text.specs.Bytes.{bytes}
use Rattle.property.specs.Lines.{known_of}
use Rattle.property.proofs.Texts.{started}
use Rattle.property.proofs.line.known.Goals as goal

pub returns-then-starts_with : goal.returns-then-starts_with
unfolding bytes known_of
returns-then-starts_with c first last =
    let s = c.args.s.now in
    rw (sym (started (bytes "XID_Start ") s) ∙ sym c.starts_with.ensures.value ∙ c.if-starts_with.true)

pub returns-then-starts_with-2 : goal.returns-then-starts_with-2
unfolding bytes known_of
returns-then-starts_with-2 c first last =
    let s = c.args.s.now in
    rw (
      sym (started (bytes "XID_Start ") s) ∙ sym c.starts_with.ensures.value ∙ c.if-starts_with.false,
      sym (started (bytes "XID_Continue ") s) ∙ sym c.starts_with-2.ensures.value ∙ c.if-starts_with-2.true,
    )

pub returns-then-starts_with-3 : goal.returns-then-starts_with-3
unfolding bytes known_of
returns-then-starts_with-3 c first last =
    let s = c.args.s.now in
    rw (
      sym (started (bytes "XID_Start ") s) ∙ sym c.starts_with.ensures.value ∙ c.if-starts_with.false,
      sym (started (bytes "XID_Continue ") s) ∙ sym c.starts_with-2.ensures.value ∙ c.if-starts_with-2.false,
      sym (started (bytes "White_Space ") s) ∙ sym c.starts_with-3.ensures.value ∙ c.if-starts_with-3.true,
    )

pub returns : goal.returns
unfolding bytes known_of
returns c first last =
    let s = c.args.s.now in
    rw (
      sym (started (bytes "XID_Start ") s) ∙ sym c.starts_with.ensures.value ∙ c.if-starts_with.false,
      sym (started (bytes "XID_Continue ") s) ∙ sym c.starts_with-2.ensures.value ∙ c.if-starts_with-2.false,
      sym (started (bytes "White_Space ") s) ∙ sym c.starts_with-3.ensures.value ∙ c.if-starts_with-3.false,
    )
