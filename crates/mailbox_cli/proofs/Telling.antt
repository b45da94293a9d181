-- How a story is told event by event: what was done, where it stopped, and how it goes on.
use Rattle.std.proofs.Common.{◌≡◌, ◌≢◌, ◌⊎◌, inl, inr, ⊎_elim, ℕ, ◌||◌, Bool, true, false, List, [], ◌∷◌, ◌++◌, take, Option, Some, None, Result, Ok, Err, refl, sym, ◌∙◌, ap, subst, arith, append_assoc}
use Rattle.std.proofs.lemmas.List.{append-nil}
use Rattle.std.proofs.lemmas.List.Folds.{list_any-append}
use Rattle.std.specs.FinMap.{insert}
use Rattle.std.specs.List.{list_any}
use Rattle.group_fields.specs.Counts.{IsRaised}
use Rattle.group_fields.specs.Plan.{next_call}
use Rattle.group_fields.specs.declared.counts.Counts.{Counts}
use Rattle.disk_trait.specs.Moments.{OnlyReads}
use Rattle.kem_trait.specs.declared.kem.Kem.{Ghosts as KemGhosts}
use Rattle.mail_trait.specs.Post.{Files, SameElsewhere, whole_put, failed_put}
use Rattle.mail_trait.specs.Sink.{AppendsPrefix}
use Rattle.mail_trait.specs.declared.put.Put.{Put}
use Rattle.mailbox_cli.specs.Call.{Answers, IsFaultOf, failed, wanted, Devices, Moment, IsUncounted, WantRose, of_disk, of_post, of_entropy, of_sink, HasCauses, Untouched, IsFault, LeavesAsked, LeavesEnd, LeavesPost, LeavesLines}
use Rattle.mailbox_cli.specs.Lines.{is_quiet, refusal_line, status_of}
use Rattle.mailbox_cli.specs.Parts.{Says, whole, part, Refuses, IsSettled, DiskDid, DiskStops, Did, Stops, Tells}
use Rattle.mailbox_cli.specs.Steps.{Step, steps_of}
use Rattle.mailbox_cli.specs.Story.{Event, opens, draws, awaits, plans, puts, prints, ends, seeds_in, plans_in, puts_in, lines_in, steps_after, files_after, asked_after, is_acknowledged, asks_disk, asks_post, asks_source, asks_output, refuses}
use Rattle.mailbox_cli.specs.declared.ended.Ended.{Ended}
use Rattle.mailbox_cli.specs.declared.ended.Refusal.{Refusal}
use Rattle.mailbox_cli.specs.declared.ended.Refusal.TheVariants.{Words, NotMade, AlreadyMade, NoUsableKey, NotJournal}
use Rattle.mailbox_cli.proofs.Disks.{Laws, disk_on, disk_opened, disk_same, disk_stays, disk_unopened}
use Rattle.mailbox_cli.proofs.Sums.{acknowledged-append, asked_after-append, files_after-append, lines_in-append, lines_same, post_same, puts_in-append, seeds_in-append, steps_after-append}

-- a device's status is its own, or 9
pub status_of_fault : (status : ℕ) (before now : Counts) (ended : Ended) → IsFaultOf status before now ended
    → (ended.status ≡ 9) ⊎ ((ended.status ≡ status) × IsRaised before.faults now.faults)
status_of_fault status before now ended (failed is raised) = inr (is.0, raised)
status_of_fault status before now ended (wanted is raised) = inl is.0

pub want_of : (status : ℕ) (before now : Counts) (ended : Ended) → status ≢ 9 → IsFaultOf status before now ended → ended.status ≡ 9
    → IsRaised before.wants now.wants
want_of status before now ended other (failed is raised) nine = absurd (other (sym is.0 ∙ nine))
want_of status before now ended other (wanted is raised) nine = raised

pub fault_of : (status : ℕ) (before now : Counts) (ended : Ended) → IsFaultOf status before now ended → IsFault status ended
fault_of status before now ended (failed is raised) = inl is
fault_of status before now ended (wanted is raised) = inr is

-- the fault of a device is no other device's
not_status : (status other : ℕ) (before now : Counts) (ended : Ended) → status ≢ other → other ≢ 9
    → IsFaultOf status before now ended → ended.status ≡ other → ⊥
not_status status other before now ended apart nine fault is = ⊎_elim (λ (e : ended.status ≡ 9). nine (sym is ∙ e))
    (λ own. apart (sym own.0 ∙ is)) (status_of_fault status before now ended fault)

own_status : (status : ℕ) (before now : Counts) (ended : Ended) → status ≢ 9 → IsFaultOf status before now ended
    → ended.status ≡ status → IsRaised before.faults now.faults
own_status status before now ended apart fault is = ⊎_elim (λ (e : ended.status ≡ 9). absurd (apart (sym is ∙ e)))
    (λ own. own.1) (status_of_fault status before now ended fault)

not_quiet : (status : ℕ) (before now : Counts) (ended : Ended) → is_quiet status ≡ false → IsFaultOf status before now ended
    → is_quiet ended.status ≡ true → ⊥
not_quiet status before now ended loud fault is = ⊎_elim
    (λ (e : ended.status ≡ 9). let clash : true ≡ false = sym is ∙ ap is_quiet e in cc)
    (λ own. let clash : true ≡ false = sym is ∙ ap is_quiet own.0 ∙ loud in cc) (status_of_fault status before now ended fault)

loud : (status other : ℕ) → is_quiet status ≡ true → status ≡ other → is_quiet other ≡ false → ⊥
loud status other quiet is never = let clash : true ≡ false = sym quiet ∙ ap is_quiet is ∙ never in cc

none_either : (a b : Bool) → (a || b) ≡ false → (a ≡ false) × (b ≡ false)
none_either true b is = cc
none_either false b is = (refl, is)

unasked_parts : (test : Event → Bool) (a b : List Event) → list_any test (a ++ b) ≡ false
    → (list_any test a ≡ false) × (list_any test b ≡ false)
unasked_parts test a b is = none_either (list_any test a) (list_any test b) (sym (list_any-append test a b) ∙ is)

module _ {D P E S : Type 0} (on : Devices D P E S) where
  -- the cause of an answer
  module _ (first last : Moment D P E S) (ended : Ended) where
    pub causes_disk : IsFaultOf 4 (on.disk.counts first.disk) (on.disk.counts last.disk) ended → HasCauses on first last ended
    causes_disk f = record {
      quiet = λ is. absurd (not_quiet 4 _ _ ended refl f is);
      disk = own_status 4 _ _ ended (λ e. omega (arith, e)) f;
      post = λ is. absurd (not_status 4 5 _ _ ended (λ e. omega (arith, e)) (λ e. omega (arith, e)) f is);
      entropy = λ is. absurd (not_status 4 6 _ _ ended (λ e. omega (arith, e)) (λ e. omega (arith, e)) f is);
      sink = λ is. absurd (not_status 4 7 _ _ ended (λ e. omega (arith, e)) (λ e. omega (arith, e)) f is);
    }

    pub causes_post : IsFaultOf 5 (on.post.counts first.post) (on.post.counts last.post) ended → HasCauses on first last ended
    causes_post f = record {
      quiet = λ is. absurd (not_quiet 5 _ _ ended refl f is);
      disk = λ is. absurd (not_status 5 4 _ _ ended (λ e. omega (arith, e)) (λ e. omega (arith, e)) f is);
      post = own_status 5 _ _ ended (λ e. omega (arith, e)) f;
      entropy = λ is. absurd (not_status 5 6 _ _ ended (λ e. omega (arith, e)) (λ e. omega (arith, e)) f is);
      sink = λ is. absurd (not_status 5 7 _ _ ended (λ e. omega (arith, e)) (λ e. omega (arith, e)) f is);
    }

    pub causes_entropy : IsFaultOf 6 (on.entropy.counts first.entropy) (on.entropy.counts last.entropy) ended
        → HasCauses on first last ended
    causes_entropy f = record {
      quiet = λ is. absurd (not_quiet 6 _ _ ended refl f is);
      disk = λ is. absurd (not_status 6 4 _ _ ended (λ e. omega (arith, e)) (λ e. omega (arith, e)) f is);
      post = λ is. absurd (not_status 6 5 _ _ ended (λ e. omega (arith, e)) (λ e. omega (arith, e)) f is);
      entropy = own_status 6 _ _ ended (λ e. omega (arith, e)) f;
      sink = λ is. absurd (not_status 6 7 _ _ ended (λ e. omega (arith, e)) (λ e. omega (arith, e)) f is);
    }

    pub causes_sink : IsFaultOf 7 (on.sink.counts first.out) (on.sink.counts last.out) ended → HasCauses on first last ended
    causes_sink f = record {
      quiet = λ is. absurd (not_quiet 7 _ _ ended refl f is);
      disk = λ is. absurd (not_status 7 4 _ _ ended (λ e. omega (arith, e)) (λ e. omega (arith, e)) f is);
      post = λ is. absurd (not_status 7 5 _ _ ended (λ e. omega (arith, e)) (λ e. omega (arith, e)) f is);
      entropy = λ is. absurd (not_status 7 6 _ _ ended (λ e. omega (arith, e)) (λ e. omega (arith, e)) f is);
      sink = own_status 7 _ _ ended (λ e. omega (arith, e)) f;
    }

    pub causes_memory : ended.status ≡ 9 → HasCauses on first last ended
    causes_memory nine = record {
      quiet = λ is. absurd (loud ended.status 9 is nine refl);
      disk = λ is. absurd (omega (arith, nine, is));
      post = λ is. absurd (omega (arith, nine, is));
      entropy = λ is. absurd (omega (arith, nine, is));
      sink = λ is. absurd (omega (arith, nine, is));
    }

    pub causes_quiet : (status : ℕ) → ended.status ≡ status → is_quiet status ≡ true → IsUncounted on first last
        → HasCauses on first last ended
    causes_quiet status is quiet same = record {
      quiet = λ any. same;
      disk = λ e. absurd (loud status 4 quiet (sym is ∙ e) refl);
      post = λ e. absurd (loud status 5 quiet (sym is ∙ e) refl);
      entropy = λ e. absurd (loud status 6 quiet (sym is ∙ e) refl);
      sink = λ e. absurd (loud status 7 quiet (sym is ∙ e) refl);
    }

  pub same_counts : (m : Moment D P E S) → IsUncounted on m m
  same_counts m = record { disk = refl; post = refl; entropy = refl; sink = refl }

  -- counts that stayed do not hide a cause
  module _ (first mid last : Moment D P E S) (same : IsUncounted on first mid) where
    pub causes_later : (ended : Ended) → HasCauses on mid last ended → HasCauses on first last ended
    causes_later ended causes = record {
      quiet = λ is.
          let later : IsUncounted on mid last = causes.quiet is in
          record {
            disk = later.disk ∙ same.disk;
            post = later.post ∙ same.post;
            entropy = later.entropy ∙ same.entropy;
            sink = later.sink ∙ same.sink;
          };
      disk = λ is. subst (λ (c : Counts). IsRaised c.faults (on.disk.counts last.disk).faults) same.disk (causes.disk is);
      post = λ is. subst (λ (c : Counts). IsRaised c.faults (on.post.counts last.post).faults) same.post (causes.post is);
      entropy = λ is. subst (λ (c : Counts). IsRaised c.faults (on.entropy.counts last.entropy).faults) same.entropy (causes.entropy is);
      sink = λ is. subst (λ (c : Counts). IsRaised c.faults (on.sink.counts last.out).faults) same.sink (causes.sink is);
    }

    pub want_later : WantRose on mid last → WantRose on first last
    want_later (of_disk raised) = of_disk (subst (λ (c : Counts). IsRaised c.wants (on.disk.counts last.disk).wants) same.disk raised)
    want_later (of_post raised) = of_post (subst (λ (c : Counts). IsRaised c.wants (on.post.counts last.post).wants) same.post raised)
    want_later (of_entropy raised) =
        of_entropy (subst (λ (c : Counts). IsRaised c.wants (on.entropy.counts last.entropy).wants) same.entropy raised)
    want_later (of_sink raised) = of_sink (subst (λ (c : Counts). IsRaised c.wants (on.sink.counts last.out).wants) same.sink raised)

  -- what was not asked in two parts
  pub untouched_on : (first mid last : Moment D P E S) (a b : List Event) → Untouched on first mid a → Untouched on mid last b
      → Untouched on first last (a ++ b)
  untouched_on first mid last a b early late = record {
    disk = λ is. let parts = unasked_parts asks_disk a b is in late.disk parts.1 ∙ early.disk parts.0;
    post = λ is. let parts = unasked_parts asks_post a b is in late.post parts.1 ∙ early.post parts.0;
    entropy = λ is. let parts = unasked_parts asks_source a b is in late.entropy parts.1 ∙ early.entropy parts.0;
    sink = λ is. let parts = unasked_parts asks_output a b is in late.sink parts.1 ∙ early.sink parts.0;
  }

  module _ {K L : Type 0} (kem : KemGhosts K L) (laws : Laws on.disk) where
    pub did_none : (read : Result (List Step) ℕ) (m : Moment D P E S) → Did kem on [] read m m
    did_none read m = record {
      drawn = λ told. sym (append-nil (on.entropy.given m.entropy));
      asked = λ told. refl;
      disk = λ told reads. disk_same kem on.disk laws told [] read m.disk refl refl reads;
      files = λ told. refl;
      puts = λ told. sym (append-nil (on.post.puts m.post));
      lines = λ told. sym (append-nil (on.sink.written m.out));
      untouched = record { disk = λ is. refl; post = λ is. refl; entropy = λ is. refl; sink = λ is. refl };
      counts = same_counts m;
    }

    pub did_open : (read : Result (List Step) ℕ) (m : Moment D P E S) (disk' : D)
        → (on.disk.told → (steps : List Step) → read ≡ Ok steps → IsSettled on.disk disk') → (on.disk.told → OnlyReads on.disk m.disk disk')
        → on.disk.counts disk' ≡ on.disk.counts m.disk → Did kem on (opens ∷ []) read m (record m { disk = disk' })
    did_open read m disk' settled only same = record {
      drawn = λ told. sym (append-nil (on.entropy.given m.entropy));
      asked = λ told. refl;
      disk = λ told reads. disk_opened kem on.disk laws told read m.disk disk' reads (settled told) (only told);
      files = λ told. refl;
      puts = λ told. sym (append-nil (on.post.puts m.post));
      lines = λ told. sym (append-nil (on.sink.written m.out));
      untouched = record { disk = λ is. cc; post = λ is. refl; entropy = λ is. refl; sink = λ is. refl };
      counts = record { disk = same; post = refl; entropy = refl; sink = refl };
    }

    pub did_draw : (read : Result (List Step) ℕ) (m : Moment D P E S) (entropy' : E) (random : List ℕ)
        → (on.entropy.told → on.entropy.given entropy' ≡ on.entropy.given m.entropy ++ random ∷ [])
        → (on.entropy.told → on.entropy.asked entropy' ≡ next_call (on.entropy.asked m.entropy))
        → on.entropy.counts entropy' ≡ on.entropy.counts m.entropy
        → Did kem on (draws random ∷ []) read m (record m { entropy = entropy' })
    did_draw read m entropy' random drawn asked same = record {
      drawn = drawn;
      asked = asked;
      disk = λ told reads. disk_same kem on.disk laws told (draws random ∷ []) read m.disk refl refl reads;
      files = λ told. refl;
      puts = λ told. sym (append-nil (on.post.puts m.post));
      lines = λ told. sym (append-nil (on.sink.written m.out));
      untouched = record { disk = λ is. refl; post = λ is. refl; entropy = λ is. cc; sink = λ is. refl };
      counts = record { disk = refl; post = refl; entropy = same; sink = refl };
    }

    pub did_plan : (read : Result (List Step) ℕ) (m : Moment D P E S) (disk' : D) (step : Step)
        → (on.disk.told → steps_of kem (on.disk.content m.disk) ≡ read → DiskDid kem on.disk (plans step ∷ []) read m.disk disk')
        → on.disk.counts disk' ≡ on.disk.counts m.disk → Did kem on (plans step ∷ []) read m (record m { disk = disk' })
    did_plan read m disk' step planned same = record {
      drawn = λ told. sym (append-nil (on.entropy.given m.entropy));
      asked = λ told. refl;
      disk = planned;
      files = λ told. refl;
      puts = λ told. sym (append-nil (on.post.puts m.post));
      lines = λ told. sym (append-nil (on.sink.written m.out));
      untouched = record { disk = λ is. cc; post = λ is. refl; entropy = λ is. refl; sink = λ is. refl };
      counts = record { disk = same; post = refl; entropy = refl; sink = refl };
    }

    pub did_put : (read : Result (List Step) ℕ) (m : Moment D P E S) (post' : P) (name bytes : List ℕ)
        → (on.post.told → on.post.files post' ≡ insert (on.post.files m.post) name bytes)
        → (on.post.told → on.post.puts post' ≡ on.post.puts m.post ++ whole_put name bytes ∷ [])
        → on.post.counts post' ≡ on.post.counts m.post → Did kem on (puts name bytes ∷ []) read m (record m { post = post' })
    did_put read m post' name bytes files seen same = record {
      drawn = λ told. sym (append-nil (on.entropy.given m.entropy));
      asked = λ told. refl;
      disk = λ told reads. disk_same kem on.disk laws told (puts name bytes ∷ []) read m.disk refl refl reads;
      files = files;
      puts = seen;
      lines = λ told. sym (append-nil (on.sink.written m.out));
      untouched = record { disk = λ is. refl; post = λ is. cc; entropy = λ is. refl; sink = λ is. refl };
      counts = record { disk = refl; post = same; entropy = refl; sink = refl };
    }

    pub did_print : (read : Result (List Step) ℕ) (m : Moment D P E S) (out' : S) (text : List ℕ)
        → (on.sink.told → on.sink.written out' ≡ on.sink.written m.out ++ text) → on.sink.counts out' ≡ on.sink.counts m.out
        → Did kem on (prints text ∷ []) read m (record m { out = out' })
    did_print read m out' text printed same = record {
      drawn = λ told. sym (append-nil (on.entropy.given m.entropy));
      asked = λ told. refl;
      disk = λ told reads. disk_same kem on.disk laws told (prints text ∷ []) read m.disk refl refl reads;
      files = λ told. refl;
      puts = λ told. sym (append-nil (on.post.puts m.post));
      lines = λ told. printed told ∙ ap (λ (l : List ℕ). on.sink.written m.out ++ l) (sym (append-nil text));
      untouched = record { disk = λ is. refl; post = λ is. refl; entropy = λ is. refl; sink = λ is. cc };
      counts = record { disk = refl; post = refl; entropy = refl; sink = same };
    }

    -- some events, and then others
    pub did_on : (a b : List Event) (read : Result (List Step) ℕ) (first mid last : Moment D P E S) → Did kem on a read first mid
        → Did kem on b (steps_after read a) mid last → Did kem on (a ++ b) read first last
    did_on a b read first mid last early late = record {
      drawn = λ told. late.drawn told ∙ ap (λ (l : List (List ℕ)). l ++ seeds_in b) (early.drawn told)
          ∙ append_assoc (on.entropy.given first.entropy) (seeds_in a) (seeds_in b)
          ∙ ap (λ (l : List (List ℕ)). on.entropy.given first.entropy ++ l) (sym (seeds_in-append a b));
      asked = λ told. late.asked told ∙ ap (asked_after (seeds_in b)) (early.asked told)
          ∙ sym (asked_after-append (seeds_in a) (seeds_in b) (on.entropy.asked first.entropy))
          ∙ ap (λ (l : List (List ℕ)). asked_after l (on.entropy.asked first.entropy)) (sym (seeds_in-append a b));
      disk = λ told reads.
          let soon : DiskDid kem on.disk a read first.disk mid.disk = early.disk told reads in
          disk_on kem on.disk laws told a b read first.disk mid.disk last.disk soon (late.disk told soon.steps);
      files = λ told. late.files told ∙ ap (λ (f : Files). files_after f b) (early.files told)
          ∙ sym (files_after-append (on.post.files first.post) a b);
      puts = λ told. late.puts told ∙ ap (λ (l : List Put). l ++ puts_in b) (early.puts told)
          ∙ append_assoc (on.post.puts first.post) (puts_in a) (puts_in b)
          ∙ ap (λ (l : List Put). on.post.puts first.post ++ l) (sym (puts_in-append a b));
      lines = λ told. late.lines told ∙ ap (λ (l : List ℕ). l ++ lines_in b) (early.lines told)
          ∙ append_assoc (on.sink.written first.out) (lines_in a) (lines_in b)
          ∙ ap (λ (l : List ℕ). on.sink.written first.out ++ l) (sym (lines_in-append a b));
      untouched = untouched_on first mid last a b early.untouched late.untouched;
      counts = record {
        disk = late.counts.disk ∙ early.counts.disk;
        post = late.counts.post ∙ early.counts.post;
        entropy = late.counts.entropy ∙ early.counts.entropy;
        sink = late.counts.sink ∙ early.counts.sink;
      };
    }

    -- what was done goes before what is told
    module _ (read : Result (List Step) ℕ) (first mid last : Moment D P E S) (done : List Event) (did : Did kem on done read first mid)
        (ended : Ended) where
      pub tells_on : (story later : List (List ℕ) → List Event)
          → (ended.status ≡ 9 → (is_acknowledged true done ≡ true) ⊎ WantRose on mid last)
          → ((seeds : List (List ℕ)) → story (seeds_in done ++ seeds) ≡ done ++ later seeds)
          → Tells kem on later (steps_after read done) mid last ended → Tells kem on story read first last ended
      tells_on story later due goes tells = record {
        events = done ++ tells.events;
        rest = tells.rest;
        mid = tells.mid;
        is = ap story (seeds_in-append done tells.events) ∙ goes (seeds_in tells.events)
            ∙ ap (λ (l : List Event). done ++ l) tells.is ∙ sym (append_assoc done tells.events tells.rest);
        did = did_on done tells.events read first mid tells.mid did tells.did;
        stops = subst (λ (r : Result (List Step) ℕ). Stops kem on tells.rest r tells.mid last ended)
            (sym (steps_after-append read done tells.events)) tells.stops;
        wants = λ nine. ⊎_elim (λ want. inl (want_later first mid last did.counts want))
            (λ free. ⊎_elim
            (λ acknowledged. inr (acknowledged-append true done tells.events
            ∙ ap (λ (b : Bool). is_acknowledged b tells.events) acknowledged ∙ free))
            (λ want. inl (want_later first mid last did.counts want)) (due nine)) (tells.wants nine);
      }

    -- a story that stops at once
    pub tells_now : (read : Result (List Step) ℕ) (first last : Moment D P E S) (ended : Ended) (story : List (List ℕ) → List Event)
        (rest : List Event) → story [] ≡ rest → Stops kem on rest read first last ended → Tells kem on story read first last ended
    tells_now read first last ended story rest is stops = record {
      events = [];
      rest = rest;
      mid = first;
      is = is;
      did = did_none read first;
      stops = stops;
      wants = λ nine. inr refl;
    }

    module _ (read : Result (List Step) ℕ) (m : Moment D P E S) (ended : Ended) where
      -- nothing was asked
      pub stops_same : (rest : List Event) → LeavesAsked rest ended (on.entropy.asked m.entropy) (on.entropy.asked m.entropy)
          → HasCauses on m m ended → LeavesEnd rest ended → Stops kem on rest read m m ended
      stops_same rest asked causes ending = record {
        given = λ told. refl;
        asked = λ told. asked;
        disk = λ told reads. disk_stays kem on.disk laws told _ rest read m.disk reads;
        posts = λ told. post_same rest (on.post.files m.post) (on.post.files m.post) (on.post.puts m.post) (on.post.puts m.post) refl refl;
        lines = λ told. lines_same _ rest (on.sink.written m.out) (on.sink.written m.out) refl;
        untouched = record { disk = λ is. refl; post = λ is. refl; entropy = λ is. refl; sink = λ is. refl };
        causes = causes;
        ending = ending;
      }

      -- memory ran out before an event
      pub lacks_memory : (story : List (List ℕ) → List Event) (rest : List Event) → story [] ≡ rest
          → LeavesAsked rest ended (on.entropy.asked m.entropy) (on.entropy.asked m.entropy) → LeavesEnd rest ended
          → ended.status ≡ 9 → Tells kem on story read m m ended
      lacks_memory story rest is asked ending nine =
          tells_now read m m ended story rest is (stops_same rest asked (causes_memory m m ended nine) ending)

      -- the end
      pub ends_here : (story : List (List ℕ) → List Event) (status : ℕ) (refusal : Option Refusal)
          → story [] ≡ ends status refusal ∷ [] → Answers status refusal ended → is_quiet status ≡ true → Tells kem on story read m m ended
      ends_here story status refusal is answer quiet = tells_now read m m ended story (ends status refusal ∷ []) is
          (stops_same (ends status refusal ∷ []) refl (causes_quiet m m ended status answer.0 quiet (same_counts m)) (refl, answer))

      pub fails_open : (story : List (List ℕ) → List Event) (later : List Event) (disk' : D) → story [] ≡ opens ∷ later
          → (on.disk.told → OnlyReads on.disk m.disk disk') → HasCauses on m (record m { disk = disk' }) ended → IsFault 4 ended
          → Tells kem on story read m (record m { disk = disk' }) ended
      fails_open story later disk' is only causes ending = tells_now read m (record m { disk = disk' }) ended story (opens ∷ later) is
          (record {
            given = λ told. refl;
            asked = λ told. refl;
            disk = λ told reads. disk_unopened kem on.disk laws told _ later read m.disk disk' reads (only told);
            posts = λ told. (refl, refl);
            lines = λ told. refl;
            untouched = record { disk = λ is. cc; post = λ is. refl; entropy = λ is. refl; sink = λ is. refl };
            causes = causes;
            ending = ending;
          })

      pub fails_draw : (story : List (List ℕ) → List Event) (entropy' : E) → story [] ≡ awaits ∷ []
          → (on.entropy.told → on.entropy.given entropy' ≡ on.entropy.given m.entropy)
          → (on.entropy.told → on.entropy.asked entropy' ≡ next_call (on.entropy.asked m.entropy))
          → IsFaultOf 6 (on.entropy.counts m.entropy) (on.entropy.counts entropy') ended
          → Tells kem on story read m (record m { entropy = entropy' }) ended
      fails_draw story entropy' is given asked f = tells_now read m (record m { entropy = entropy' }) ended story (awaits ∷ []) is
          (record {
            given = given;
            asked = λ told. inl (asked told);
            disk = λ told reads. disk_stays kem on.disk laws told _ (awaits ∷ []) read m.disk reads;
            posts = λ told. (refl, refl);
            lines = λ told. refl;
            untouched = record { disk = λ is. refl; post = λ is. refl; entropy = λ is. cc; sink = λ is. refl };
            causes = causes_entropy m (record m { entropy = entropy' }) ended f;
            ending = fault_of 6 _ _ ended f;
          })

      pub fails_plan : (story : List (List ℕ) → List Event) (disk' : D) (step : Step) (later : List Event) → story [] ≡ plans step ∷ later
          → (on.disk.told → steps_of kem (on.disk.content m.disk) ≡ read
          → DiskStops kem on.disk (IsFaultOf 4 (on.disk.counts m.disk) (on.disk.counts disk') ended) (plans step ∷ later) read m.disk disk')
          → IsFaultOf 4 (on.disk.counts m.disk) (on.disk.counts disk') ended → Tells kem on story read m (record m { disk = disk' }) ended
      fails_plan story disk' step later is stopped f = tells_now read m (record m { disk = disk' }) ended story (plans step ∷ later) is
          (record {
            given = λ told. refl;
            asked = λ told. refl;
            disk = stopped;
            posts = λ told. (refl, refl);
            lines = λ told. refl;
            untouched = record { disk = λ is. cc; post = λ is. refl; entropy = λ is. refl; sink = λ is. refl };
            causes = causes_disk m (record m { disk = disk' }) ended f;
            ending = fault_of 4 _ _ ended f;
          })

      pub fails_put : (story : List (List ℕ) → List Event) (post' : P) (name bytes : List ℕ) (later : List Event)
          → story [] ≡ puts name bytes ∷ later → (on.post.told → SameElsewhere name (on.post.files m.post) (on.post.files post'))
          → (on.post.told → (on.post.puts post' ≡ on.post.puts m.post ++ failed_put name bytes ∷ [])
          ⊎ ((on.post.puts post' ≡ on.post.puts m.post) × (on.post.files post' ≡ on.post.files m.post)))
          → IsFaultOf 5 (on.post.counts m.post) (on.post.counts post') ended → Tells kem on story read m (record m { post = post' }) ended
      fails_put story post' name bytes later is others list f =
          tells_now read m (record m { post = post' }) ended story (puts name bytes ∷ later) is
          (record {
            given = λ told. refl;
            asked = λ told. refl;
            disk = λ told reads. disk_stays kem on.disk laws told _ (puts name bytes ∷ later) read m.disk reads;
            posts = λ told. ⊎_elim (λ seen. inr (others told, seen)) (λ none. inl (none.1, none.0)) (list told);
            lines = λ told. refl;
            untouched = record { disk = λ is. refl; post = λ is. cc; entropy = λ is. refl; sink = λ is. refl };
            causes = causes_post m (record m { post = post' }) ended f;
            ending = fault_of 5 _ _ ended f;
          })

      pub fails_print : (story : List (List ℕ) → List Event) (out' : S) (text : List ℕ) (later : List Event)
          → story [] ≡ prints text ∷ later → (on.sink.told → AppendsPrefix text (on.sink.written m.out) (on.sink.written out'))
          → IsFaultOf 7 (on.sink.counts m.out) (on.sink.counts out') ended → Tells kem on story read m (record m { out = out' }) ended
      fails_print story out' text later is some f = tells_now read m (record m { out = out' }) ended story (prints text ∷ later) is
          (record {
            given = λ told. refl;
            asked = λ told. refl;
            disk = λ told reads. disk_stays kem on.disk laws told _ (prints text ∷ later) read m.disk reads;
            posts = λ told. (refl, refl);
            lines = λ told. inr (f, some told);
            untouched = record { disk = λ is. refl; post = λ is. refl; entropy = λ is. refl; sink = λ is. cc };
            causes = causes_sink m (record m { out = out' }) ended f;
            ending = fault_of 7 _ _ ended f;
          })

    -- a line, and the answer that goes with it
    pub says_tells : (read : Result (List Step) ℕ) (m : Moment D P E S) (ended : Ended) (story : List (List ℕ) → List Event) (text : List ℕ)
        (status : ℕ) (refusal : Option Refusal) (out' : S) → ((seeds : List (List ℕ)) → story seeds ≡ prints text ∷ ends status refusal ∷ [])
        → is_quiet status ≡ true → Says on.sink text status refusal m.out out' ended
        → Tells kem on story read m (record m { out = out' }) ended
    says_tells read m ended story text status refusal out' is quiet (part f some) =
        fails_print read m ended story out' text (ends status refusal ∷ []) (is []) some f
    says_tells read m ended story text status refusal out' is quiet (whole answer same printed) =
        tells_on read m (record m { out = out' }) (record m { out = out' }) (prints text ∷ []) (did_print read m out' text printed same) ended
        story (λ seeds. ends status refusal ∷ []) (λ nine. inl refl) is
        (ends_here read (record m { out = out' }) ended (λ seeds. ends status refusal ∷ []) status refusal refl answer quiet)

    pub refuses_tells : (read : Result (List Step) ℕ) (m : Moment D P E S) (ended : Ended) (story : List (List ℕ) → List Event)
        (refusal : Refusal) (out' : S) → ((seeds : List (List ℕ)) → story seeds ≡ refuses refusal) → Refuses on.sink refusal m.out out' ended
        → Tells kem on story read m (record m { out = out' }) ended
    refuses_tells read m ended story refusal out' is (inl says) =
        says_tells read m ended story (refusal_line refusal) (status_of refusal) (Some refusal) out' is (refusal_quiet refusal) says
      where
        refusal_quiet : (refusal : Refusal) → is_quiet (status_of refusal) ≡ true
        refusal_quiet Words = refl
        refusal_quiet NotMade = refl
        refusal_quiet AlreadyMade = refl
        refusal_quiet NoUsableKey = refl
        refusal_quiet (NotJournal place) = refl
    refuses_tells read m ended story refusal out' is (inr lacks) =
        subst (λ (o : S). Tells kem on story read m (record m { out = o }) ended) (sym lacks.1)
        (lacks_memory read m ended story (refuses refusal) (is []) refl (inr lacks.0) lacks.0.0)

    -- what is lacking in a line that was said has its cause
    pub says_want : (m : Moment D P E S) (ended : Ended) (text : List ℕ) (status : ℕ) (refusal : Option Refusal) (out' : S)
        → is_quiet status ≡ true → Says on.sink text status refusal m.out out' ended → ended.status ≡ 9
        → WantRose on m (record m { out = out' })
    says_want m ended text status refusal out' quiet (whole answer same printed) nine =
        absurd (loud status 9 quiet (sym answer.0 ∙ nine) refl)
    says_want m ended text status refusal out' quiet (part f some) nine = of_sink (want_of 7 _ _ ended (λ e. omega (arith, e)) f nine)
