use Rattle.std.proofs.Common.{rules}
use Rattle.scanning.specs.ScanCases.{scan_cases, handed-on, scan-stops, scan-less, scan-within, scan-on}
use Rattle.scanning.proofs.scan.Goals as goal

pub loop-at-init : goal.loop-at-init
loop-at-init c = search (rules, scan_cases)

pub returns-in_err-column : goal.returns-in_err-column
returns-in_err-column c =
    handed-on _ c.from_residual.ensures.1
    (scan-stops _ _ _ _ c.loop-at.invariant.1 c.loop-at-test.true _ c.pass.ensures _ c.in_err-column.was)

pub loop-at-smaller : goal.loop-at-smaller
loop-at-smaller c = scan-less _ _ _ _ c.loop-at.invariant.1 c.loop-at-test.true _ c.pass.ensures _ _ c.in_ok-column.was

pub loop-at-preserved : goal.loop-at-preserved
loop-at-preserved c = (
  scan-within _ _ _ _ c.loop-at.invariant.1 c.loop-at-test.true _ c.pass.ensures _ _ c.in_ok-column.was,
  scan-on _ _ _ _ c.loop-at.invariant.1 c.loop-at-test.true _ c.pass.ensures _ _ c.in_ok-column.was,
)

pub returns-then-column-eq0 : goal.returns-then-column-eq0
returns-then-column-eq0 c = search (rules, scan_cases)

pub returns : goal.returns
returns c = search (rules, scan_cases)
