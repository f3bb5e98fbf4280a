use Rattle.std.proofs.Common.{rules}
use Rattle.std.proofs.Output.{has_written_append, has_written_of_eq}
use Rattle.lines.proofs.Text.{octet_text-digits, octet_text-next, hex_text-all}
use Rattle.lines.proofs.HexDisplay.fmt.Goals as goal

pub loop-octet-preserved : goal.loop-octet-preserved
loop-octet-preserved g c = λ plain.
    has_written_of_eq _ _ _ _ _ (octet_text-next _ _ c.loop-octet-test.true)
    (has_written_append _ _ _ _ _ _ (c.loop-octet.invariant plain)
    (has_written_of_eq _ _ _ _ _ (octet_text-digits _ _ (search rules) c.pair.ensures) (search rules)))

pub returns-clause-writes : goal.returns-clause-writes
returns-clause-writes g c = λ plain ok.
    has_written_of_eq _ _ _ _ _ (hex_text-all _ _ c.loop-octet-test.false c.if-is_empty.ensures)
    (c.loop-octet.invariant plain)
