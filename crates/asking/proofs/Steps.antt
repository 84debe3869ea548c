-- One ask in the slices of a run: what they hold stays how far asking has come, whatever the workshop answers.
use Rattle.std.proofs.Common.{◌≡◌, ℕ, ◌+◌, ◌-◌, ◌<◌, Bool, true, false, ◌≢◌, List, length, get_or, drop, Some, None, sym, ap, ◌∙◌, subst, inl, inr, arith}
use mathlib.Core.Path.{fun_ext}
use borrow.Rule.Slice.PartMut.{put_mid}
use Rattle.std.specs.List.{between}
use Rattle.std.proofs.lemmas.Bool.{cases_lt, cases_eq, false≢true, cond-false, le-ltb}
use Rattle.std.proofs.lemmas.List.{length-set}
use Rattle.layout.specs.Tables.{Tables, Proper, applicants, workshops, rows, places_at, list_length}
use Rattle.round.proofs.Ends.{listed_below}
use Rattle.points.specs.Standing.{no_row, row_of, row_worth, market}
use Rattle.bench.specs.Row.{taken_in, left_out, last_seat, answer_of}
use Rattle.bench.specs.declared.Answer.{Answer}
use Rattle.bench.specs.declared.Answer.TheVariants.{Kept, Displaced, TurnedDown}
use Rattle.bench.proofs.Told.{answer_kept, answer_displaced, answer_turned_down}
use Rattle.asking.specs.Ended.{bench_of}
use Rattle.asking.specs.Asking.{gone, Going, counts, at_rest, but_for, one_more, Asking, After, asks_on}
use Rattle.asking.proofs.Parts.{counts_at, counts_set_other, counts_one_more, rest_one_more, but_for_same, but_for_other, between_same, between_other, length_parts, drop_behind}
use Rattle.asking.proofs.Progress.{gone_from, gone_parts, not_gone, gone_elsewhere, going_kept, going_out}
use Rattle.points.proofs.Theory.{market_n, market_m}
use Rattle.asking.proofs.Tabled.{market_len, market_entry}
use Rattle.asking.proofs.Standings.{row_found, row_small, row_worth_none}
use Rattle.asking.proofs.Proper.{lawful}
use Rattle.asking.proofs.Benched.{length_bench_of, kept_seated, bench_taken_in, rowless_not_kept, others_kept, out_not_kept}

left_out_worthless : (v : ℕ → ℕ) (x : ℕ) (bench : List ℕ) → v x ≡ 0 → left_out v x bench ≡ x
unfolding left_out
left_out_worthless v x bench z = cond-false _ _ _ (le-ltb (v (last_seat x bench)) (v x) (omega arith))

-- b, who has come so far, asks w with its row x; part is what the bench of w holds then, and y is out
module _ (t : Tables) (ok : Proper t) (results benches part : List ℕ) (b w x y : ℕ) (small : b < applicants t) (lt : get_or results b 0 < list_length t b)
    (asking : Asking t (but_for t results b) results benches)
    (is_w : w ≡ get_or t.entries (get_or t.starts b 0 + get_or results b 0) 0) (is_x : x ≡ row_of t w b)
    (is_part : part ≡ taken_in (row_worth t) x (between (get_or t.seats w 0) (get_or t.seats (w + 1) 0) benches))
    (is_y : y ≡ left_out (row_worth t) x (between (get_or t.seats w 0) (get_or t.seats (w + 1) 0) benches)) where
  come_to : but_for t results b b ≡ get_or results b 0
  come_to = but_for_same t results b ∙ counts_at t results b small

  entry_is : (market t).wish.entry b (but_for t results b b) ≡ w
  entry_is = ap ((market t).wish.entry b) come_to ∙ market_entry t ok b small (get_or results b 0) lt ∙ sym is_w

  listed : but_for t results b b < (market t).wish.len b
  listed = let e = come_to in let f = market_len t ok b small in omega arith

  lw : w < workshops t
  lw = let s = (lawful t ok).listed.small b _ listed in let e = entry_is in let m = market_m t in omega arith

  asker : counts t results b ≡ but_for t results b b
  asker = sym (but_for_same t results b)

  more : counts t (one_more results b) b ≡ but_for t results b b + 1
  more = counts_one_more t results b small asking.room.0

  same : (c : ℕ) → c ≢ b → counts t (one_more results b) c ≡ counts t results c
  same = counts_set_other t results b (get_or results b 0 + 1)

  here_b : (market t).wish.pos b w ≡ but_for t results b b
  here_b = rw entry_is at ((lawful t ok).listed.there b _ listed)

  new : gone (market t).wish (counts t results) w b ≡ false
  new = not_gone (market t).wish (counts t results) w b (let e = here_b in let f = asker in omega arith)

  now : gone (market t).wish (counts t (one_more results b)) w b ≡ true
  now =
      gone_from (market t).wish _ w b (let e = here_b in let f = more in omega arith) (let e = here_b in let f = listed in omega arith)

  same_gone : (c : ℕ) → c ≢ b → gone (market t).wish (counts t (one_more results b)) w c ≡ gone (market t).wish (counts t results) w c
  unfolding gone
  same_gone c ne = rw (same c ne)

  part_is : part ≡ bench_of t (gone (market t).wish (counts t (one_more results b)) w) w
  part_is =
      let bench = asking.seated w lw in
      let after = bench_taken_in t ok w lw _ _ b small new now same_gone in
      cc

  y_is : y ≡ left_out (row_worth t) (row_of t w b) (bench_of t (gone (market t).wish (counts t results) w) w)
  y_is = let bench = asking.seated w lw in cc

  long : length part ≡ places_at t w
  long = ap {B = ℕ} (λ (xs : List ℕ). length xs) part_is ∙ length_bench_of t ok w lw _

  seated_after : (q : ℕ) → q < workshops t → between (get_or t.seats q 0) (get_or t.seats (q + 1) 0) (put_mid (get_or t.seats w 0) (places_at t w) benches part) ≡ bench_of t (gone (market t).wish (counts t (one_more results b)) q) q
  seated_after q lq =
      elim (cases_eq q w) [
        | inl e ↦ rw e (between_same t ok benches part w lw long asking.room.1 ∙ part_is)
        | inr ne ↦
            between_other t ok benches part w lw long asking.room.1 q lq ne ∙ asking.seated q lq
            ∙ ap (λ (X : ℕ → Bool). bench_of t X q) (sym (gone_elsewhere (market t) (lawful t ok) _ _ _ asking.going b asker more same q (λ _ e. ne (e ∙ entry_is))))
      ]

  asking_on : (e : ℕ → ℕ) → Going (market t) e (counts t (one_more results b)) → Asking t e (one_more results b) (put_mid (get_or t.seats w 0) (places_at t w) benches part)
  asking_on e g =
      record {
        going = g;
        seated = seated_after;
        room = let r = asking.room in (omega (arith, length-set results b (get_or results b 0 + 1)), let e = length_parts t ok benches part w lw long asking.room.1 in omega arith);
      }

  -- whoever is kept there before asks there now
  here_kept : (c : ℕ) → (market t).keeps w (gone (market t).wish (counts t results) w) c ≡ true → ((market t).wish.pos c w ≡ but_for t results b c) × (c < applicants t)
  here_kept c k =
      let in_x = gone_parts (market t).wish (counts t results) w c ((lawful t ok).way.own w _ c k) in
      let n = asking.going.near c in
      let m = market_n t in
      let below = listed_below (market t) (lawful t ok) c _ in_x.1 in
      elim (cases_lt ((market t).wish.pos c w) (but_for t results b c)) [
        | inl passed ↦ absurd (false≢true (sym (asking.going.passed w c in_x.1 passed) ∙ k))
        | inr here ↦ (omega arith, omega arith)
      ]

  -- whoever else asks there now is kept there before
  kept_here : (c : ℕ) → c ≢ b → gone (market t).wish (counts t (one_more results b)) w c ≡ true → (market t).wish.pos c w ≡ but_for t results b c → (market t).keeps w (gone (market t).wish (counts t results) w) c ≡ true
  kept_here c ne h at =
      let in_x = gone_parts (market t).wish (counts t results) w c (sym (same_gone c ne) ∙ h) in
      let n = asking.going.near c in
      let e : (market t).wish.entry c (but_for t results b c) ≡ w = ap ((market t).wish.entry c) (sym at) ∙ (lawful t ok).listed.back c w in_x.1 in
      subst (λ (q : ℕ). (market t).keeps q (gone (market t).wish (counts t results) q) c ≡ true) e (asking.going.settled c (omega arith) (omega arith))

  applicant : (c : ℕ) → gone (market t).wish (counts t (one_more results b)) w c ≡ true → c < applicants t
  applicant c h =
      let m = market_n t in
      let below = listed_below (market t) (lawful t ok) c _ (gone_parts (market t).wish _ w c h).1 in
      omega arith

  -- all who ask there now and are not out are kept
  kept_after : (c : ℕ) → row_of t w c ≢ y → (c ≡ b → row_of t w b ≢ no_row) → gone (market t).wish (counts t (one_more results b)) w c ≡ true → (market t).wish.pos c w ≡ but_for t results b c → (market t).keeps w (gone (market t).wish (counts t (one_more results b)) w) c ≡ true
  kept_after c ne row h at =
      others_kept t ok w lw _ _ b small new now same_gone y y_is c (applicant c h) ne
      (elim (cases_eq c b) [ inl e ↦ inr (e, row e) | inr other ↦ inl (kept_here c other h at) ])

  rest_after : (c : ℕ) → counts t (one_more results b) c - 1 ≡ but_for t results b c
  rest_after = rest_one_more t results b small asking.room.0

  row_kept : (c : ℕ) → c ≢ b → gone (market t).wish (counts t (one_more results b)) w c ≡ true → (market t).wish.pos c w ≡ but_for t results b c → row_of t w c ≢ no_row
  row_kept c ne h at = (kept_seated t ok w lw _ c (applicant c h) (kept_here c ne h at)).0

  -- who has no row is out at once
  rowless_out : row_of t w b ≡ no_row → y ≡ x
  rowless_out none = y_is ∙ left_out_worthless (row_worth t) (row_of t w b) _ (ap (row_worth t) none ∙ row_worth_none t ok) ∙ sym is_x

  -- b has a seat that was empty
  step_kept : y ≢ x → y ≡ no_row → After t None (one_more results b) (put_mid (get_or t.seats w 0) (places_at t w) benches part)
  unfolding at_rest
  step_kept ne none =
      let row : row_of t w b ≢ no_row = λ e. ne (none ∙ sym e ∙ sym is_x) in
      asking_on (at_rest t (one_more results b))
      (subst (λ (e : ℕ → ℕ). Going (market t) e (counts t (one_more results b))) (fun_ext (λ c. sym (rest_after c)))
      (going_kept (market t) (lawful t ok) _ _ _ asking.going b asker more same listed w entry_is
      (λ c h at. kept_after c (λ i. elim (cases_eq c b) [ inl e ↦ row (sym (ap (row_of t w) e) ∙ i ∙ none) | inr other ↦ row_kept c other h at (i ∙ none) ]) (λ _. row) h at)))

  -- o is out
  step_out : (o : ℕ) → gone (market t).wish (counts t (one_more results b)) w o ≡ true → (market t).wish.pos o w ≡ but_for t results b o →
      (market t).keeps w (gone (market t).wish (counts t (one_more results b)) w) o ≡ false →
      ((c : ℕ) → c ≢ o → gone (market t).wish (counts t (one_more results b)) w c ≡ true → (market t).wish.pos c w ≡ but_for t results b c → (market t).keeps w (gone (market t).wish (counts t (one_more results b)) w) c ≡ true) →
      After t (Some o) (one_more results b) (put_mid (get_or t.seats w 0) (places_at t w) benches part)
  step_out o h at out kept =
      let on : but_for t (one_more results b) o o ≡ but_for t results b o + 1 =
      (let in_y = gone_parts (market t).wish _ w o h in let r = rest_after o in let f = but_for_same t (one_more results b) o in omega arith) in
      let some : 0 < get_or (one_more results b) o 0 =
      (let in_y = gone_parts (market t).wish _ w o h in let e = counts_at t (one_more results b) o (applicant o h) in omega arith) in (
        applicant o h,
        some,
        asking_on (but_for t (one_more results b) o)
            (going_out (market t) (lawful t ok) _ _ _ asking.going b asker more same listed w entry_is o (but_for t (one_more results b) o) on
            (λ c ne. but_for_other t (one_more results b) o c ne ∙ rest_after c) h at out kept),
      )

  -- b has the seat of y
  step_displaced : y ≢ x → y ≢ no_row → After t (Some (get_or t.row_applicants y 0)) (one_more results b) (put_mid (get_or t.seats w 0) (places_at t w) benches part)
  step_displaced ne row =
      let f = out_not_kept t ok w lw _ _ b small new now same_gone y y_is row in
      let k : (market t).keeps w (gone (market t).wish (counts t results) w) (get_or t.row_applicants y 0) ≡ true = elim f.2 [ inl e ↦ absurd (ne (e ∙ sym is_x)) | inr k ↦ k ] in
      let own = (lawful t ok).way.own w _ _ k in
      let other : get_or t.row_applicants y 0 ≢ b = λ e. false≢true (sym new ∙ ap (gone (market t).wish (counts t results) w) (sym e) ∙ own) in
      step_out (get_or t.row_applicants y 0) (same_gone _ other ∙ own) (here_kept _ k).0 f.1
      (λ c apart h at.
      kept_after c
      (λ i. apart (sym (row_found t ok w lw c (λ z. row (sym i ∙ z))).1 ∙ ap (λ (r : ℕ). get_or t.row_applicants r 0) i))
      (λ _ z. ne (rowless_out z)) h at)

  -- b is turned down
  step_turned_down : y ≡ x → After t (Some b) (one_more results b) (put_mid (get_or t.seats w 0) (places_at t w) benches part)
  step_turned_down e =
      let out : (market t).keeps w (gone (market t).wish (counts t (one_more results b)) w) b ≡ false =
      elim (cases_eq (row_of t w b) no_row) [
        | inl none ↦ rowless_not_kept t ok w lw _ _ b small new now same_gone none
        | inr row ↦
            let f = out_not_kept t ok w lw _ _ b small new now same_gone y y_is (λ z. row (sym is_x ∙ sym e ∙ z)) in
            let own : get_or t.row_applicants y 0 ≡ b = ap (λ (r : ℕ). get_or t.row_applicants r 0) (e ∙ is_x) ∙ (row_found t ok w lw b row).1 in
            rw own at f.1
      ] in
      step_out b now here_b out
      (λ c apart h at.
      let row = row_kept c apart h at in
      kept_after c
      (λ i.
      let i' : row_of t w c ≡ row_of t w b = i ∙ e ∙ is_x in
      apart (sym (row_found t ok w lw c row).1 ∙ ap (λ (r : ℕ). get_or t.row_applicants r 0) i' ∙ (row_found t ok w lw b (λ z. row (i' ∙ z))).1))
      (λ me. absurd (apart me)) h at)

  -- what is behind the benches stays
  pub step_behind : drop (get_or t.seats (workshops t) 0) (put_mid (get_or t.seats w 0) (places_at t w) benches part) ≡ drop (get_or t.seats (workshops t) 0) benches
  step_behind = drop_behind t ok benches part w lw long asking.room.1

  -- a row that is out is a row
  pub step_row : (z : ℕ) → Displaced z ≡ answer_of x y → z < rows t
  step_row z e =
      let told = answer_displaced x y z (sym e) in
      let f = out_not_kept t ok w lw _ _ b small new now same_gone y y_is told.1 in
      rw (← told.2) (row_small t ok w lw y f.0)

  pub step_answer : (r : Answer) → r ≡ answer_of x y → After t (asks_on t b r) (one_more results b) (put_mid (get_or t.seats w 0) (places_at t w) benches part)
  step_answer Kept e = let told = answer_kept x y (sym e) in step_kept told.0 told.1
  step_answer (Displaced z) e = let told = answer_displaced x y z (sym e) in rw (← told.2) (step_displaced told.0 told.1)
  step_answer TurnedDown e = step_turned_down (answer_turned_down x y (sym e))
