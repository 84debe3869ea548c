-- The parts are put one behind the other; together they are the bytes of the round.
use Rattle.std.proofs.Common.{refl, arith}
use Rattle.layout.specs.Tables.{applicants, workshops, places_at}
use Rattle.layout.proofs.Flats.{length_table}
use Rattle.layout.proofs.Encoded.{length_encode}
use Rattle.layout.proofs.RoundTrip.{reads_back}
use Rattle.codec.specs.Rounds.{tables_of}
use Rattle.codec.proofs.Encodes.{encode_put, length_records, length_sheets, write_refused, write_answer}
use Rattle.codec.proofs.Puts.{put_part}
use Rattle.codec.proofs.Rounds.{proper_round}
use Rattle.codec.proofs.output.write.Goals as goal

pub returns-then-out-size : goal.returns-then-out-size
returns-then-out-size c =
    let t = tables_of c.args.round.now in
    let p = proper_round c.args.round.now in
    record { answer = write_refused t p _ c.args.out.now (omega (arith, length_encode t p)) c.if-out-size.true; written = refl; back = reads_back t p }

pub returns : goal.returns
returns c =
    let t = tables_of c.args.round.now in
    let p = proper_round c.args.round.now in
    record {
      answer = write_answer t p _ c.args.out.now (omega (arith, length_encode t p)) c.if-out-size.false;
      written =
          encode_put t p _ _ _ c.applicants-applicants.ensures c.workshops-workshops.ensures refl c.args.out.now _ _ _ _ _ _ c.put_word.ensures c.put_word-2.ensures
          (put_part 4 _ _ _ c.put_word-2.new.out c.write_places.ensures (omega (arith, length_table (places_at t) (workshops t))))
          (put_part _ _ _ _ _ c.write_records.ensures (omega (arith, length_records t p (applicants t) (omega arith), p.started.4)))
          c.put_word-3.ensures
          (put_part _ _ _ _ c.put_word-3.new.out c.write_sheets.ensures (omega (arith, length_sheets t p (workshops t) (omega arith), p.sheeted.3)));
      back = reads_back t p;
    }
