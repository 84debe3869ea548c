-- What the two loops of a run keep true: how it begins, and what an ask or a list that is used up makes of it.
use Rattle.std.proofs.Common.{◌≡◌, ℕ, ◌+◌, ◌<◌, ◌≤◌, Bool, List, length, get_or, drop, Some, None, sym, refl, ap, ◌∙◌, subst, inl, inr, arith}
use mathlib.Core.Path.{fun_ext}
use Rattle.std.proofs.lemmas.Bool.{cases_lt, cases_eq}
use Rattle.std.proofs.lemmas.List.{get_or-set_same, get_or-set_other, drop-set-lt, length-set}
use Rattle.layout.specs.Tables.{Tables, Proper, applicants, workshops, list_length, most_entries}
use Rattle.round.proofs.Ends.{reached_within}
use Rattle.points.specs.Standing.{market}
use Rattle.asking.specs.declared.Desk.{Desk}
use Rattle.asking.specs.Ended.{bench_of, SameSlices}
use Rattle.asking.specs.Asking.{at_rest, but_for, one_more, asks_so_far, Asking, After, Behind, Resting, Waiting}
use Rattle.asking.proofs.Parts.{counts_at, counts_set_other, but_for_same, but_for_other, counts_one_more, rest_one_more}
use Rattle.asking.proofs.Tabled.{market_len}
use Rattle.asking.proofs.Proper.{lawful}
use Rattle.asking.proofs.Progress.{going_used_up, gone_elsewhere}
use Rattle.asking.proofs.Sums.{asks_none, asks_few, asks_one_more, asks_used_up}

asking_same : (t : Tables) (results benches : List ℕ) (d e : ℕ → ℕ) → ((c : ℕ) → d c ≡ e c) → Asking t d results benches → Asking t e results benches
asking_same t results benches d e h = subst (λ (f : ℕ → ℕ). Asking t f results benches) (fun_ext h)

-- the slices of a desk stay the same over both of two steps
pub same_since : (first old now : Desk) → SameSlices first old → SameSlices old now → SameSlices first now
same_since first old now s r = record { rows = r.rows ∙ s.rows; results = r.results ∙ s.results; benches = r.benches ∙ s.benches }

module _ (t : Tables) (ok : Proper t) (results benches : List ℕ) where
  pub resting_begins : Asking t (at_rest t results) results benches → ((c : ℕ) → c < applicants t → get_or results c 0 ≡ 0) → Resting t results benches results benches 0 0
  resting_begins asking fresh =
      record {
        asking = asking;
        begun = λ c l. absurd (omega arith);
        later = λ c _. fresh c;
        counted = sym (asks_none t ok results fresh);
        behind = record { results_behind = refl; benches_behind = refl };
      }

module _ (t : Tables) (ok : Proper t) (results benches old_results old_benches : List ℕ) where
  pub waiting_begins : (a asks : ℕ) → a < applicants t → Resting t results benches old_results old_benches a asks → Waiting t results benches old_results old_benches a a asks
  unfolding at_rest
  waiting_begins a asks l rest =
      record {
        small = (omega arith, l);
        asking = asking_same t results benches (at_rest t results) (but_for t results a)
            (λ c.
            elim (cases_eq c a) [
              | inl e ↦
                  let none = counts_at t results a l ∙ rest.later a (omega arith) l in
                  let now = but_for_same t results a in
                  rw e (omega arith)
              | inr ne ↦ sym (but_for_other t results a c ne)
            ])
            rest.asking;
        begun = λ c h ne. rest.begun c (omega arith);
        later = λ c h. rest.later c (omega arith);
        counted = rest.counted;
        behind = rest.behind;
      }

  -- what is behind since an earlier time
  pub resting_since : (first_results first_benches : List ℕ) (a asks : ℕ) → Resting t results benches old_results old_benches a asks → Behind t old_results old_benches first_results first_benches → Resting t results benches first_results first_benches a asks
  resting_since first_results first_benches a asks rest before =
      record {
        asking = rest.asking;
        begun = rest.begun;
        later = rest.later;
        counted = rest.counted;
        behind = record { results_behind = rest.behind.results_behind ∙ before.results_behind; benches_behind = rest.behind.benches_behind ∙ before.benches_behind };
      }

  module _ (a asker asks : ℕ) (wait : Waiting t results benches old_results old_benches a asker asks) where
    pub asker_small : asker < applicants t
    asker_small = let s = wait.small in omega arith

    -- nobody asks more than its list has
    pub asker_few : get_or results asker 0 ≤ most_entries
    asker_few =
        let come = but_for_same t results asker ∙ counts_at t results asker asker_small in
        let within = reached_within (market t) _ wait.asking.going.reached asker in
        let len = market_len t ok asker asker_small in
        let short = ok.started.3 asker asker_small in
        omega arith

    begun_after : (c : ℕ) → c < a + 1 → 0 < get_or (one_more results asker) c 0
    begun_after c l =
        let room = wait.asking.room in
        let s = asker_small in
        elim (cases_eq c asker) [
          | inl e ↦ let now = get_or-set_same results asker (get_or results asker 0 + 1) 0 (omega arith) in rw e (omega arith)
          | inr ne ↦ let same = get_or-set_other results asker c (get_or results asker 0 + 1) 0 ne in let was = wait.begun c l ne in omega arith
        ]

    later_after : (c : ℕ) → a < c → c < applicants t → get_or (one_more results asker) c 0 ≡ 0
    later_after c h l =
        get_or-set_other results asker c (get_or results asker 0 + 1) 0 (let s = wait.small in omega arith) ∙ wait.later c h l

    behind_after : drop (applicants t) (one_more results asker) ≡ drop (applicants t) old_results
    behind_after = drop-set-lt (applicants t) results asker (get_or results asker 0 + 1) asker_small ∙ wait.behind.results_behind

    -- the list is used up
    pub waiting_ends : list_length t asker ≤ get_or results asker 0 → Resting t (one_more results asker) benches old_results old_benches (a + 1) asks
    unfolding at_rest
    waiting_ends done =
        let room = wait.asking.room in
        let come = but_for_same t results asker ∙ counts_at t results asker asker_small in
        let len = market_len t ok asker asker_small in
        let now = sym (but_for_same t results asker) in
        let more = counts_one_more t results asker asker_small room.0 in
        let same = counts_set_other t results asker (get_or results asker 0 + 1) in
        record {
          asking = asking_same t (one_more results asker) benches (but_for t results asker) (at_rest t (one_more results asker))
              (λ c. sym (rest_one_more t results asker asker_small room.0 c))
              (record {
                going = going_used_up (market t) (lawful t ok) _ _ _ wait.asking.going asker now more same (omega arith);
                seated = λ w l.
                    wait.asking.seated w l
                    ∙ ap (λ (X : ℕ → Bool). bench_of t X w) (sym (gone_elsewhere (market t) (lawful t ok) _ _ _ wait.asking.going asker now more same w (λ h. absurd (omega arith))));
                room = (omega (arith, length-set results asker (get_or results asker 0 + 1)), room.1);
              });
          begun = begun_after;
          later = λ c h. later_after c (omega arith);
          counted = wait.counted ∙ sym (asks_used_up t ok results asker asker_small room.0 done);
          behind = record { results_behind = behind_after; benches_behind = wait.behind.benches_behind };
        }

    -- an ask
    module _ (l : get_or results asker 0 < list_length t asker) where
      counted_after : asks + 1 ≡ asks_so_far t (one_more results asker)
      counted_after = let one = asks_one_more t ok results asker asker_small wait.asking.room.0 l in omega (arith, wait.counted)

      -- there is one to count
      pub asks_left : asks < length t.entries
      asks_left = let few = asks_few t ok (one_more results asker) in let one = counted_after in omega arith

      module _ (results' benches' : List ℕ) (is_results : results' ≡ one_more results asker) (behind : drop (get_or t.seats (workshops t) 0) benches' ≡ drop (get_or t.seats (workshops t) 0) benches) where
        pub waiting_settles : After t None results' benches' → Resting t results' benches' old_results old_benches (a + 1) (asks + 1)
        waiting_settles after =
            rw is_results
            (record {
              asking = rw is_results at after;
              begun = begun_after;
              later = λ c h. later_after c (omega arith);
              counted = counted_after;
              behind = record { results_behind = behind_after; benches_behind = behind ∙ wait.behind.benches_behind };
            })

        pub waiting_on : (other : ℕ) → After t (Some other) results' benches' → Waiting t results' benches' old_results old_benches a other (asks + 1)
        waiting_on other after' =
            let after : After t (Some other) (one_more results asker) benches' = rw is_results at after' in
            rw is_results
            (record {
              small = (elim (cases_lt other (a + 1)) [ inl h ↦ h | inr h ↦ let none = later_after other (omega arith) after.0 in absurd (omega (arith, after.1)) ], wait.small.1);
              asking = after.2;
              begun = λ c h _. begun_after c h;
              later = later_after;
              counted = counted_after;
              behind = record { results_behind = behind_after; benches_behind = behind ∙ wait.behind.benches_behind };
            })
