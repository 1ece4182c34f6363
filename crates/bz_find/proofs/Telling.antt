-- What a look-up learns by each answer.
use Rattle.std.proofs.Common.{◌≡◌, ℕ, ◌+◌, Bool, true, false, List, arith, refl, sym, ap, subst, ◌∙◌}
use Rattle.std.specs.Prelude.{Some, None, ◌==◌, if◌then◌else◌}
use Rattle.std.proofs.lemmas.Bool.Decides.{nat_tests}
use Rattle.bz_layout.specs.Addresses.{node_address}
use Rattle.bz_layout.specs.Slots.{FreeSlots}
use Rattle.bz_layout.specs.declared.sizes.TheConstants.{STATUS_AT, HEADER_AT}
use Rattle.bz_slotted.specs.ReadingLaws.{node_of}
use Rattle.bz_word.specs.Statuses.{status}
use Rattle.bz_leaf.proofs.Learning.{linked, word-at}
use Rattle.bz_task.specs.Instant.{durable, is_inside}
use Rattle.bz_task.specs.Outcomes.{IsKeyView}
use Rattle.bz_task.specs.OwnActs.{gained}
use Rattle.bz_task.specs.Requests.{Answers, Tells}
use Rattle.bz_task.specs.Scene.{Past, Scene, Stage, Waiting, Took, IsScene, HasFilled, here}
use Rattle.bz_task.specs.declared.todo.Seen.{Seen}
use Rattle.bz_task.specs.declared.todo.Seen.TheVariants.{Start, Read as Was, Stored, Flushed, Swapped, NoSwap}
use Rattle.bz_task.specs.declared.todo.Todo.TheVariants.{Read, Finish}
use Rattle.bz_task.proofs.Proved.{nothing_is_gained}
use Rattle.bz_find.specs.Facts.{IsBounded, IsStill, Opened, Ended, Linked, IsReckoned, IsFoundAt, find_bounds, find_learnt, find_facts}
use Rattle.bz_find.specs.Knowing.{KnowsAt, Knows, HasFound}
use Rattle.bz_find.specs.Phases.{find_asks, phase_after, search_of, told, counted}
use Rattle.bz_find.specs.Steps.{place_of, heard}
use Rattle.bz_find.specs.declared.find.Find.{Find}
use Rattle.bz_find.specs.declared.phase.FindPhase.{FindPhase}
use Rattle.bz_find.specs.declared.phase.FindPhase.TheVariants.{Fresh, Status, Header, Searching, Again, Link as Of_link, Guard, Viewed, Changed}
use Rattle.bz_find.specs.declared.search.Step.{Step}
use Rattle.bz_find.specs.declared.search.Step.TheVariants.{Meta, Word, Payload, Done}
use Rattle.bz_find.proofs.Advancing.{advances}
use Rattle.bz_find.proofs.Begins.{knows-first}
use Rattle.bz_find.proofs.Learning.{learns}
use Rattle.bz_find.proofs.Reading.{front-word, wanted, opens}
use Rattle.bz_find.proofs.Viewing.{viewed, thawed-key, thawed-reckoned, frozen-key, frozen-reckoned}

-- an answer that tells something is one to a read, and nothing has taken effect
answered : (P : Seen → Type 0) (s : Scene) (a : ℕ) → ((v : ℕ) → Answers s a v → P (Was v)) → (seen : Seen) → Tells (Some (Read a)) Waiting seen s → P seen
answered P s a h Start e = absurd (e)
answered P s a h (Was v) e = h v e
answered P s a h Stored e = absurd (e)
answered P s a h Flushed e = absurd (e)
answered P s a h (Swapped won) e = absurd (e)
answered P s a h NoSwap e = absurd (e)

untold : (P : Type 0) (s : Scene) (stage : Stage) (seen : Seen) → Tells (Some Finish) stage seen s → P
untold P s Waiting Start e = absurd (e)
untold P s Waiting (Was v) e = absurd (e)
untold P s Waiting Stored e = absurd (e)
untold P s Waiting Flushed e = absurd (e)
untold P s Waiting (Swapped won) e = absurd (e)
untold P s Waiting NoSwap e = absurd (e)
untold P s Took Start e = absurd (e)
untold P s Took (Was v) e = absurd (e)
untold P s Took Stored e = absurd (e)
untold P s Took Flushed e = absurd (e)
untold P s Took (Swapped won) e = absurd (e)
untold P s Took NoSwap e = absurd (e)

abbrev Learns : Find → Scene → Type 0
Learns u s = HasFilled s × find_learnt (counted u) u.phase s.past

-- the search goes on, or has ended
goes : (t : Find) (step : Step) (p : Past) → t.search.step ≡ step → t.search.key ≡ t.key → (o : Opened t.key t.link t.status p) → (IsStill p t.link o.ws o.reading.read_at → Knows (node_of o.ws) t.search) → find_learnt (counted (record t { phase = phase_after step t.status })) (phase_after step t.status) p
goes t (Meta at) p e k o f = record { opened = o; same = k; knows = f }
goes t (Word at w i) p e k o f = record { opened = o; same = k; knows = f }
goes t (Payload j w i) p e k o f = record { opened = o; same = k; knows = f }
goes t Done p e k o f = go (status t.status).frozen refl
  where
    found : IsStill p t.link o.ws o.reading.read_at → HasFound (node_of o.ws) t.search
    found still = subst (λ z. KnowsAt (node_of o.ws) t.search z) e (f still)

    go : (b : Bool) → (status t.status).frozen ≡ b → find_learnt (counted (record t { phase = if b then Of_link else Again })) (if b then Of_link else Again) p
    go true q = record { opened = o; same = k; found = found; is = q }
    go false q = record { opened = o; same = k; found = found; is = q }

module _ (t : Find) (s : Scene) (same : s.past.config ≡ t.config) (good : IsScene s) where
  in-slot : (i v : ℕ) → Answers s (node_address t.config t.link.slot + i) v → Answers s (node_address s.past.config t.link.slot + i) v
  in-slot i v a = subst (λ z. Answers s (node_address z t.link.slot + i) v) (sym same) a

  from-fresh : (seen : Seen) (now : ℕ) → find_facts t Fresh Waiting s → Tells None Waiting seen s → Learns (told t Fresh seen now) s
  from-fresh Start now f h = (h, f)
  from-fresh (Was v) now f h = absurd (h)
  from-fresh Stored now f h = absurd (h)
  from-fresh Flushed now f h = absurd (h)
  from-fresh (Swapped won) now f h = absurd (h)
  from-fresh NoSwap now f h = absurd (h)

  from-status : (v now : ℕ) → find_facts t Status Waiting s → Answers s (node_address t.config t.link.slot + STATUS_AT) v → Learns (told t Status (Was v) now) s
  from-status v now f a = (f.0, opens s t.key t.link f.1 v (in-slot STATUS_AT v a))

  from-header : (v now : ℕ) → find_facts t Header Waiting s → Answers s (node_address t.config t.link.slot + HEADER_AT) v → Learns (told t Header (Was v) now) s
  from-header v now f a =
      let o : Opened t.key t.link t.status s.past = f.1 in
      let u : Find = record t { search = search_of t v } in (
        f.0,
        goes u u.search.step s.past refl refl o (λ still.
            let head : node_of o.ws HEADER_AT ≡ v = sym (front-word s t.key t.link o.ws o.reading still HEADER_AT (omega arith) (omega arith)) ∙ (sym (word-at s.past.config (here s) t.link.slot HEADER_AT (omega arith)) ∙ (in-slot HEADER_AT v a).value) in
            knows-first (node_of o.ws) (node_of o.ws) still.low still.high still.whole t.key t.status v (ap (λ z. (status z).count) o.status) head),
      )

  from-search : (v now : ℕ) → find_bounds t Searching → find_facts t Searching Waiting s → Answers s (node_address t.config t.link.slot + place_of t.search.step) v → Learns (told t Searching (Was v) now) s
  from-search v now b f a =
      let o : Opened t.key t.link t.status s.past = f.1.opened in
      let u : Find = record t { search = heard t.search v } in (
        f.0,
        goes u u.search.step s.past refl ((advances t.search v b.1 b.2).key ∙ f.1.same) o (λ still.
            learns (node_of o.ws) (node_of o.ws) still.low still.high still.whole t.search v b.1 b.2 (f.1.knows still)
            (wanted s t.key t.link o.ws o.reading still t.search v b.1 b.2 (f.1.knows still) (in-slot (place_of t.search.step) v a))),
      )

  -- not frozen, and the status is the same
  thawed : Ended t.key t.link t.status t.search false s.past → Answers s (node_address s.past.config t.link.slot + STATUS_AT) t.status → IsKeyView t.key (viewed t.link t.status t.search s.past.now) s.past × IsReckoned (durable s.past.config (here s) t.link.slot) t.search t.key
  thawed h a = go t.key h.same h
    where
      go : (key : List ℕ) → t.search.key ≡ key → Ended key t.link t.status t.search false s.past → IsKeyView key (viewed t.link t.status t.search s.past.now) s.past × IsReckoned (durable s.past.config (here s) t.link.slot) t.search key
      go key e = subst (λ z. Ended z t.link t.status t.search false s.past → IsKeyView z (viewed t.link t.status t.search s.past.now) s.past × IsReckoned (durable s.past.config (here s) t.link.slot) t.search z) e
          (λ k. (thawed-key s good t.link t.status t.search k a, thawed-reckoned s good t.link t.status t.search k a))

  from-again : (v now : ℕ) → s.past.now ≡ now → find_facts t Again Waiting s → Answers s (node_address t.config t.link.slot + STATUS_AT) v → Learns (told t Again (Was v) now) s
  from-again v now is f a = go (v == t.status) refl
    where
      go : (b : Bool) → (v == t.status) ≡ b → Learns (record t { phase = if b then Viewed now else Changed }) s
      go true e =
          let q : v ≡ t.status = grind (arith, nat_tests) in
          let w = thawed f.1 (subst (λ z. Answers s (node_address s.past.config t.link.slot + STATUS_AT) z) q (in-slot STATUS_AT v a)) in
          (f.0, subst (λ z. IsFoundAt t.key (counted (record t { phase = Viewed z })) z s.past) is (record { view = w.0; reckoned = w.1 }))
      go false e = (f.0, tt)

  from-link : (v now : ℕ) → s.past.now ≡ now → find_facts t Of_link Waiting s → Answers s t.link.link v → Learns (told t Of_link (Was v) now) s
  from-link v now is f a = go (v == t.link.slot + 1) refl
    where
      go : (b : Bool) → (v == t.link.slot + 1) ≡ b → Learns (record t { phase = if b then Guard now else Changed }) s
      go true e =
          let q : v ≡ t.link.slot + 1 = grind (arith, nat_tests) in (
            f.0,
            subst (λ z. Linked t.key t.link t.status t.search z s.past) is (record {
              ws = f.1.opened.ws;
              led = record { leaf = record { all = f.1.opened.reading; is = rw f.1.opened.status f.1.is }; order = f.1.opened.reading.until; until = omega arith; loads = a.loads; led = a.value ∙ q };
              status = f.1.opened.status;
              same = f.1.same;
              found = f.1.found;
            }),
          )
      go false e = (f.0, tt)

  -- frozen, and the guard of the link is not
  frozen : (at : ℕ) → Linked t.key t.link t.status t.search at s.past → (v : ℕ) → Answers s t.link.guard v → (status v).frozen ≡ false → IsKeyView t.key (viewed t.link t.status t.search at) s.past × IsReckoned (durable s.past.config (s.past.at at) t.link.slot) t.search t.key
  frozen at h v a f = go t.key h.same h
    where
      go : (key : List ℕ) → t.search.key ≡ key → Linked key t.link t.status t.search at s.past → IsKeyView key (viewed t.link t.status t.search at) s.past × IsReckoned (durable s.past.config (s.past.at at) t.link.slot) t.search key
      go key e = subst (λ z. Linked z t.link t.status t.search at s.past → IsKeyView z (viewed t.link t.status t.search at) s.past × IsReckoned (durable s.past.config (s.past.at at) t.link.slot) t.search z) e
          (λ k.
          let i : is_inside s.past.config (s.past.at at) t.link.slot ≡ true = linked s good t.search.key t.link k.ws at k.led v a f in
          (frozen-key s good t.link t.status t.search at k i, frozen-reckoned s good t.link t.status t.search at k i))

  from-guard : (at v now : ℕ) → find_facts t (Guard at) Waiting s → Answers s t.link.guard v → Learns (told t (Guard at) (Was v) now) s
  from-guard at v now f a = go (status v).frozen refl
    where
      go : (b : Bool) → (status v).frozen ≡ b → Learns (record t { phase = if b then Changed else Viewed at }) s
      go true e = (f.0, tt)
      go false e = let w = frozen at f.1 v a e in (f.0, record { view = w.0; reckoned = w.1 })

  tells-at : (phase : FindPhase) (stage : Stage) (seen : Seen) (now : ℕ) → s.past.now ≡ now → find_bounds t phase → find_facts t phase stage s → Tells (find_asks t phase) stage seen s → Learns (told t phase seen now) s
  tells-at phase Took seen now is b f h = absurd (f)
  tells-at Fresh Waiting seen now is b f h = from-fresh seen now f h
  tells-at Status Waiting seen now is b f h = answered (λ z. Learns (told t Status z now) s) s (node_address t.config t.link.slot + STATUS_AT) (λ v a. from-status v now f a) seen h
  tells-at Header Waiting seen now is b f h = answered (λ z. Learns (told t Header z now) s) s (node_address t.config t.link.slot + HEADER_AT) (λ v a. from-header v now f a) seen h
  tells-at Searching Waiting seen now is b f h = answered (λ z. Learns (told t Searching z now) s) s (node_address t.config t.link.slot + place_of t.search.step) (λ v a. from-search v now b f a) seen h
  tells-at Again Waiting seen now is b f h = answered (λ z. Learns (told t Again z now) s) s (node_address t.config t.link.slot + STATUS_AT) (λ v a. from-again v now is f a) seen h
  tells-at Of_link Waiting seen now is b f h = answered (λ z. Learns (told t Of_link z now) s) s t.link.link (λ v a. from-link v now is f a) seen h
  tells-at (Guard at) Waiting seen now is b f h = answered (λ z. Learns (told t (Guard at) z now) s) s t.link.guard (λ v a. from-guard at v now f a) seen h
  tells-at (Viewed at) Waiting seen now is b f h = untold (Learns (told t (Viewed at) seen now) s) s Waiting seen h
  tells-at Changed Waiting seen now is b f h = untold (Learns (told t Changed seen now) s) s Waiting seen h

  pub tells : (stage : Stage) (seen : Seen) (now : ℕ) → s.past.now ≡ now → IsBounded t → find_facts t t.phase stage s → Tells (find_asks t t.phase) stage seen s → Learns (told t t.phase seen now) s
  tells stage seen now is b f h = tells-at t.phase stage seen now is b.bounds f h

-- what is learnt is known when no slot was taken
pub no-slot : (u : Find) (phase : FindPhase) (s : Scene) (free : FreeSlots) → HasFilled s × find_learnt u phase s.past → find_facts u phase Waiting (gained s free free)
no-slot u Fresh s free h = h.1
no-slot u Status s free h = (nothing_is_gained s free h.0, h.1)
no-slot u Header s free h = (nothing_is_gained s free h.0, h.1)
no-slot u Searching s free h = (nothing_is_gained s free h.0, h.1)
no-slot u Again s free h = (nothing_is_gained s free h.0, h.1)
no-slot u Of_link s free h = (nothing_is_gained s free h.0, h.1)
no-slot u (Guard at) s free h = (nothing_is_gained s free h.0, h.1)
no-slot u (Viewed at) s free h = (nothing_is_gained s free h.0, h.1)
no-slot u Changed s free h = (nothing_is_gained s free h.0, h.1)
