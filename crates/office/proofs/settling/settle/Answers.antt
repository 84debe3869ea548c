use Rattle.std.proofs.Common.{Ok, Result, sym, ap, ◌∙◌, arith}
use Rattle.std.proofs.lemmas.Result.{err_from_is_err_and}
use Rattle.layout.specs.Bytes.{fault, tables_in, decode}
use Rattle.layout.specs.Tables.{Tables}
use Rattle.layout.specs.declared.Refusal.{Refusal}
use Rattle.layout.proofs.RoundTrip.{all_as_written}
use Rattle.codec.proofs.Firsts.{none_from_ok}
use Rattle.office.specs.Settling.{tables_settled}
use Rattle.office.proofs.Promising.{promised_of_proper}
use Rattle.office.proofs.settling.settle.Goals as goal

pub returns-in_err-held-clause-written : goal.returns-in_err-held-clause-written
returns-in_err-held-clause-written c = all_as_written c.args.bytes.now (λ k _. omega (arith, c.type_inv.bytes k))

pub returns-in_err-settled-clause-outcome : goal.returns-in_err-settled-clause-outcome
unfolding decode
returns-in_err-settled-clause-outcome c =
    let p = err_from_is_err_and c.from_residual-in_err-settled.result c.from_residual-in_err-settled.ensures.1 in
    rw (p.1, p.2) (none_from_ok (fault c.args.bytes.now) (tables_in c.args.bytes.now) _ (sym c.in_ok-held.ensures)).0

pub returns-in_err-settled-clause-written : goal.returns-in_err-settled-clause-written
returns-in_err-settled-clause-written c = all_as_written c.args.bytes.now (λ k _. omega (arith, c.type_inv.bytes k))

pub returns-clause-outcome : goal.returns-clause-outcome
returns-clause-outcome c = c.in_ok-held.ensures ∙ ap {B = Result Tables Refusal} (λ (t : Tables). Ok t) (sym c.in_ok-settled.ensures)

pub returns-clause-promised : goal.returns-clause-promised
returns-clause-promised c = promised_of_proper (tables_settled c.in_ok-settled.settled) c.in_ok-settled.settled.held.proper

pub returns-clause-written : goal.returns-clause-written
returns-clause-written c = all_as_written c.args.bytes.now (λ k _. omega (arith, c.type_inv.bytes k))
