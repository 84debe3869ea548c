-- A fault of the head is the fault of the bytes.
use Rattle.std.proofs.lemmas.Result.{err_from_is_err_and}
use Rattle.codec.proofs.Faults.{fault_in_head}
use Rattle.codec.proofs.Firsts.{fault_from_err}
use Rattle.office.proofs.reading.sizes_named.Goals as goal

pub returns-in_err-check_head : goal.returns-in_err-check_head
returns-in_err-check_head c =
    let p = err_from_is_err_and c.from_residual.result c.from_residual.ensures.1 in
    rw (p.1, p.2) (fault_in_head c.args.bytes.now _ (fault_from_err _ _ _ c.in_err-check_head.ensures))
