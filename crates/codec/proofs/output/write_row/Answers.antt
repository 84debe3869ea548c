-- Workshop, applicant and points join to the row.
use Rattle.std.proofs.Common.{◌∙◌, arith}
use Rattle.codec.proofs.Encodes.{row_put}
use Rattle.codec.proofs.Puts.{put_whole}
use Rattle.codec.proofs.output.write_row.Goals as goal

pub returns : goal.returns
returns c = row_put 0 c.args.workshop _ _ c.args.out.now _ _ (omega arith) c.put_word.ensures c.put_word-2.ensures ∙ put_whole _ c.args.out.now (omega arith)
