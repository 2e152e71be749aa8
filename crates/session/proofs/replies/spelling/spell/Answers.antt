use Rattle.std.proofs.Common.{arith}
use Rattle.session.proofs.Spelling.{begun_more, spelt}
use Rattle.session.proofs.replies.spelling.spell.Goals as goal

pub loop-field-preserved : goal.loop-field-preserved
loop-field-preserved c = begun_more _ _ _ _ _ _ _ _ c.loop-field-test.true c.loop-field.invariant c.put_field-at.ensures.puts.bytes c.put_field-at.ensures.puts.place c.put_field-at.ensures.short

pub returns : goal.returns
returns c = spelt _ _ _ _ _ _ _ _ _ (omega (arith, c.fits-out)) c.put_byte-at.ensures.bytes c.loop-field-test.false c.loop-field.invariant c.put_byte.ensures.bytes c.put_byte.ensures.place
