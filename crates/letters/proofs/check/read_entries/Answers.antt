-- Each entry is read, judged by the workshops before it, and looked at for the first that is reached.
use Rattle.std.proofs.Common.{◌≡◌, ℕ, ◌<◌, Bool, false, Option, get_or, sym, refl, ap, ◌∙◌, add-zero, arith, rules}
use Rattle.std.specs.Bool.{then_some}
use Rattle.std.specs.Option.{option_or}
use Rattle.std.proofs.lemmas.List.{length-set, get_or-replicate, get_or-drop}
use Rattle.std.proofs.lemmas.Result.{err_from_is_err_and}
use Rattle.layout.specs.Bytes.{byte, first_of}
use Rattle.layout.proofs.Firsts.{first_of_at, first_of_more}
use Rattle.cuts.specs.Cuts.{reached, first_that}
use Rattle.letters.specs.Letter.{count_in, entry_at, part_at, entry_in}
use Rattle.letters.specs.Faults.{judged, listed_fault, workshop_seen, reached_in}
use Rattle.letters.proofs.Reading.{err_from_some, none_from_ok, some_from_err, first_that_more, or_else_is, seen_more}
use Rattle.letters.specs.declared.entry.Entry.{Entry}
use Rattle.letters.proofs.check.read_entries.Goals as goal

pub loop-j-init : goal.loop-j-init
unfolding first_of first_that workshop_seen
loop-j-init c = record { sound = refl; marks = refl; marked = λ w h. get_or-replicate 256 w false false h; first = refl }

pub returns-in_err-entry : goal.returns-in_err-entry
returns-in_err-entry c =
    let b = c.args.bytes.now in
    let j = c.loop-j.j in
    let w = byte b (entry_at j) in
    let p = err_from_is_err_and c.from_residual.result c.from_residual.ensures.1 in
    let e = some_from_err (judged (get_or c.loop-j.seen w false) b j) (entry_in (part_at b j)) _ c.in_err-entry.ensures in
    let s = c.loop-j.invariant.marked w (omega (arith, c.type_inv.bytes (entry_at j))) in
    let here = first_of_at (listed_fault b) c.args.count j _ c.loop-j.invariant.sound (ap (λ (z : Bool). judged z b j) (sym s) ∙ e) (omega arith) in
    rw (p.1, p.2) (err_from_some (first_of (listed_fault b) (count_in b)) _ _ (ap (first_of (listed_fault b)) (sym c.requires.counted) ∙ here))

pub loop-j-preserved : goal.loop-j-preserved
loop-j-preserved c =
    let b = c.args.bytes.now in
    let j = c.loop-j.j in
    let w = byte b (entry_at j) in
    let e = none_from_ok (judged (get_or c.loop-j.seen w false) b j) (entry_in (part_at b j)) _ c.in_ok-entry.ensures in
    let small : w < 256 = omega (arith, c.type_inv.bytes (entry_at j)) in
    let s = c.loop-j.invariant.marked w small in
    let here : c.in_ok-entry.entry.workshop ≡ w = ap (λ (x : Entry). x.workshop) e.1 ∙ get_or-drop (entry_at j) b 0 0 ∙ ap (byte b) (add-zero (entry_at j)) in
    let x = c.in_ok-entry.entry in
    let reach : reached x.points c.args.lot x.cut ≡ reached_in b j =
    ap (λ (x : Entry). reached x.points c.args.lot x.cut) e.1
    ∙ ap (λ (n : ℕ). reached (entry_in (part_at b j)).points (record { 0 = n }) (entry_in (part_at b j)).cut) c.requires.drawn
    in
    let more = first_that_more (reached_in b) j in
    let v = then_some (reached x.points c.args.lot x.cut) j in
    let first : c.or_else-first.result ≡ option_or c.loop-j.first v =
    or_else_is c.loop-j.first c.or_else-first.result v _ c.or_else-first.ensures (λ p. search rules)
    in
    let at = c.from.ensures in
    record {
      sound = first_of_more (listed_fault b) j c.loop-j.invariant.sound (ap (λ (z : Bool). judged z b j) (sym s) ∙ e.0);
      marks = length-set c.loop-j.seen _ _ ∙ c.loop-j.invariant.marks;
      marked = seen_more b c.loop-j.seen j _ c.loop-j.invariant.marks (at ∙ here) (omega arith) c.loop-j.invariant.marked;
      first = first ∙ ap (λ (o : Option ℕ). option_or o v) c.loop-j.invariant.first ∙ ap (λ (t : Bool). option_or (first_that (reached_in b) j) (then_some t j)) reach ∙ sym more;
    }
