-- In a quiet time each link of a path hangs from the one before, in the image of any moment: so the reads of the path are those of the
-- way up from the leaf.
use Rattle.std.proofs.Common.{◌≡◌, ◌≢◌, ℕ, zero, suc, ◌+◌, ◌-◌, ◌<◌, ◌≤◌, ◌==◌, List, Some, true, false, arith, refl, sym, ap, subst, ◌∙◌, inl, inr, length}
use Rattle.std.specs.Prelude.{nat_lt, slice_get}
use Rattle.std.proofs.lemmas.Bool.Decides.{nat_tests}
use Rattle.std.proofs.lemmas.Option.{slice_get_within, slice_get_cases}
use Rattle.bz_layout.specs.Addresses.{node_address}
use Rattle.bz_layout.specs.declared.sizes.TheConstants.{STATUS_AT, HEADER_AT}
use Rattle.bz_tree.specs.Form.{Form, Fits, Stands}
use Rattle.bz_tree.specs.View.{View}
use Rattle.bz_tree.specs.Walk.{form}
use Rattle.bz_slotted.specs.Page.{page}
use Rattle.bz_slotted.specs.Readers.{count_of, child_of}
use Rattle.bz_slotted.specs.Records.{pointer_at}
use Rattle.bz_word.specs.Headers.{header}
use Rattle.bz_word.specs.Statuses.{status}
use Rattle.bz_content.specs.Content.{view_in, leaf_in}
use Rattle.bz_task.specs.Good.{IsGood}
use Rattle.bz_task.specs.Instant.{words, durable, page_at, form_at, is_inside}
use Rattle.bz_task.specs.Outcomes.{IsPath, IsLink, IsUnderNode}
use Rattle.bz_task.specs.Requests.{IsPointerPlace}
use Rattle.bz_task.specs.Scene.{Scene, IsScene}
use Rattle.bz_task.specs.Steps.{IsQuiet}
use Rattle.bz_task.specs.declared.path.Link.{Link}
use Rattle.bz_task.specs.declared.path.Path.{Path}
use Rattle.bz_task.proofs.Proved.{headers_say_the_level}
use Rattle.bz_renew.proofs.Words.{node-at}
use Rattle.bz_descend.specs.SeekFacts.{reads_of, count_above, reads_through}
use Rattle.bz_undisturbed.specs.Quiet.{IsQuietSince, IsIn}
use Rattle.bz_undisturbed.specs.Reads.{reads_above, way_reads, PathsReadFew}
use Rattle.bz_undisturbed.proofs.Inners.{fits}
use Rattle.bz_undisturbed.proofs.Standing.{good-at, guard-stood, link-stood}
use Rattle.bz_undisturbed.proofs.Leads.{paths-lead}
use Rattle.bz_undisturbed.proofs.Quiet.{undisturbed, quiet-times}
use Rattle.bz_undisturbed.proofs.Trees.{trees-stand}

apart : (a b : ℕ) → a ≢ b → (a == b) ≡ false
apart a b ne = grind (arith, nat_tests)

count-is : (n : ℕ → ℕ) → count_of n ≡ (page n).count
unfolding count_of
count-is n = refl

child-is : (n : ℕ → ℕ) (i to : ℕ) → i < (page n).count → n (pointer_at (page n) i) ≡ to + 1 → child_of n i ≡ to
unfolding child_of
child-is n i to l e = let t : nat_lt i (page n).count ≡ true = grind (arith, nat_tests) in rw t (omega (arith, e))

-- more nodes, more reads
more-above : (v : View) (f : Form) (k n m : ℕ) → n ≤ m → reads_above v f k n ≤ reads_above v f k m
unfolding reads_above
more-above v f k zero m l = omega arith
more-above v f k (suc n) zero l = absurd (omega (arith, l))
more-above v f k (suc n) (suc m) l = omega (arith, more-above v f (f.up k) n m (omega (arith, l)))

-- a node hangs from another one, whose status was read so
record Hung (v : View) (f : Form) (above next : Link) : Type 0 where
  up : f.up next.slot ≡ above.slot
  level : f.level next.slot + 1 ≡ f.level above.slot
  count : v.count above.slot ≡ (status next.status).count

module _ (s : Scene) (key : List ℕ) (path : Path) (j : ℕ) (good : IsScene s) (q : IsQuietSince s.past.since s.past) (is : IsPath key path s.past) (in-j : IsIn s.past.since s.past j) where
  gx : IsGood s.past.config (s.past.at j)
  gx = good-at s good s.past.since q j in-j.from in-j.to

  fx : Fits (view_in s.past.config (s.past.at j).image) (form_at s.past.config (s.past.at j))
  fx = fits s.past.config (s.past.at j) gx

  silent : (i : ℕ) → s.past.since ≤ i → i ≤ s.past.now → IsQuiet s.past.config (s.past.at s.past.since) (s.past.at i)
  silent i from to = quiet-times s.past.config s.past.at s.past.since s.past.now s.past.since i s.past.now good.history (record { since = omega arith; order = good.begun; until = omega arith }) from to q.effects

  inside : (link : Link) → IsLink key s.past link → is_inside s.past.config (s.past.at j) link.slot ≡ true
  inside link on = (trees-stand s s.past.since on.was j good q (record { from = on.since; to = on.now }) in-j).inside link.slot ∙ on.inside

  -- an inner node is the same at each moment
  words-same : (k g : ℕ) → s.past.since ≤ g → g ≤ s.past.now → (s.past.at g).reached k ≡ true → 0 < (page_at s.past.config (s.past.at g) k).level → words s.past.config (s.past.at j) k ≡ words s.past.config (s.past.at g) k
  words-same k g from to r inner = λ t i. (qj.nodes k first i (inr (inr (inl high))) ∙ sym (qg.nodes k first i (inr (inr (inl high))))) t
    where
      qg : IsQuiet s.past.config (s.past.at s.past.since) (s.past.at g)
      qg = silent g from to

      qj : IsQuiet s.past.config (s.past.at s.past.since) (s.past.at j)
      qj = silent j in-j.from in-j.to

      first : (s.past.at s.past.since).reached k ≡ true
      first = sym (qg.reached k) ∙ r

      high : 0 < (page_at s.past.config (s.past.at s.past.since) k).level
      high = subst (λ z. 0 < (header z).level) (qg.nodes k first HEADER_AT (inl (omega arith))) inner

  module _ (above next : Link) (to : IsLink key s.past above) (on : IsLink key s.past next) (at : next.guard ≡ node_address s.past.config above.slot + STATUS_AT) (u : IsUnderNode s.past next on.guarded.guarded) where
    abbrev g : ℕ
    g = on.guarded.guarded

    ne : above.slot ≢ s.past.config.nodes
    ne e = absurd (omega (arith, e, to.slot))

    same : u.parent ≡ above.slot
    same = omega (arith, u.guard, at)

    child : IsPointerPlace (page_at s.past.config (s.past.at g) above.slot) u.place
    child = subst (λ z. IsPointerPlace (page_at s.past.config (s.past.at g) z) u.place) same u.child

    ws : words s.past.config (s.past.at j) above.slot ≡ words s.past.config (s.past.at g) above.slot
    ws = words-same above.slot g on.guarded.since (omega (arith, on.guarded.order, on.guarded.now)) (subst (λ z. (s.past.at g).reached z ≡ true) same u.reached) child.inner

    inner : 0 < (page_at s.past.config (s.past.at j) above.slot).level
    inner = subst (λ n. 0 < (page n).level) (sym ws) child.inner

    counted : child.child < (page_at s.past.config (s.past.at j) above.slot).count
    counted = subst (λ n. child.child < (page n).count) (sym ws) child.counted

    place : u.place ≡ pointer_at (page_at s.past.config (s.past.at j) above.slot) child.child
    place = subst (λ n. u.place ≡ pointer_at (page n) child.child) (sym ws) child.place

    level : (form_at s.past.config (s.past.at j)).level above.slot ≡ (page_at s.past.config (s.past.at j) above.slot).level
    level = sym (headers_say_the_level s.past.config (s.past.at j) above.slot gx ne (inside above to)).level

    durable-same : durable s.past.config (s.past.at j) above.slot ≡ words s.past.config (s.past.at j) above.slot
    durable-same = λ t i. gx.shown above.slot i (gx.inside above.slot (inside above to) ne) (inr (inr (inl inner))) t

    pointer : words s.past.config (s.past.at j) above.slot u.place ≡ next.slot + 1
    pointer =
        node-at s.past.config (s.past.at j).value above.slot u.place u.within
        ∙ (ap (s.past.at j).value (sym (u.pointer ∙ ap (λ z. node_address s.past.config z + u.place) same)) ∙ link-stood s good s.past.since q next on.guarded on.guarded.since j in-j.from in-j.to)

    guarded : words s.past.config (s.past.at j) above.slot STATUS_AT ≡ next.status
    guarded =
        node-at s.past.config (s.past.at j).value above.slot STATUS_AT (omega arith)
        ∙ (ap (s.past.at j).value (sym at) ∙ guard-stood s good s.past.since q next on.guarded on.guarded.since j in-j.from in-j.to)

    count-same : (view_in s.past.config (s.past.at j).image).count above.slot ≡ (page_at s.past.config (s.past.at j) above.slot).count
    count-same = rw (apart above.slot s.past.config.nodes ne) (ap count_of durable-same ∙ count-is (words s.past.config (s.past.at j) above.slot))

    child-same : (view_in s.past.config (s.past.at j).image).child above.slot child.child ≡ next.slot
    child-same =
        rw (apart above.slot s.past.config.nodes ne) (ap (λ n. child_of n child.child) durable-same
        ∙ child-is (words s.past.config (s.past.at j) above.slot) child.child next.slot counted (subst (λ z. words s.past.config (s.past.at j) above.slot z ≡ next.slot + 1) place pointer))

    stands : Stands (view_in s.past.config (s.past.at j).image) (form_at s.past.config (s.past.at j)) above.slot child.child next.slot
    stands =
        subst (λ z. Stands (view_in s.past.config (s.past.at j).image) (form_at s.past.config (s.past.at j)) above.slot child.child z) child-same
        (fx.down above.slot child.child (inside above to) (omega (arith, inner, level)) (omega (arith, counted, count-same)))

    hung : Hung (view_in s.past.config (s.past.at j).image) (form_at s.past.config (s.past.at j)) above next
    hung = record { up = stands.up; level = stands.level; count = count-same ∙ ap (λ z. (status z).count) guarded }

  hangs : (above next : Link) → IsLink key s.past above → IsLink key s.past next → next.guard ≡ node_address s.past.config above.slot + STATUS_AT → Hung (view_in s.past.config (s.past.at j).image) (form_at s.past.config (s.past.at j)) above next
  hangs above next to on at = elim on.guarded.under [
    | inl u ↦ absurd (omega (arith, u.guard, at))
    | inr u ↦ hung above next to on at u
  ]

  -- a link of the path: its slot stands so far below the top, and the nodes above it are those that were read
  record Reaches (n : ℕ) (link : Link) : Type 0 where
    low : (form_at s.past.config (s.past.at j)).level link.slot + n < (view_in s.past.config (s.past.at j).image).height
    reads : reads_through path.links n ≡ reads_above (view_in s.past.config (s.past.at j).image) (form_at s.past.config (s.past.at j)) link.slot n

  reaches : (n : ℕ) → n < path.depth → n < length path.links → (link : Link) → slice_get path.links n ≡ Some link → Reaches n link
  unfolding reads_through reads_above
  reaches zero l within link e =
      let on : IsLink key s.past link = is.links 0 link l e in
      let lower = (fx.hangs link.slot (inside link on) (λ z. absurd (omega (arith, z, on.slot)))).lower in
      record { low = omega (arith, lower); reads = refl }
  reaches (suc n) l within link e = elim (slice_get_cases path.links n).1 [
    | inr past ↦ absurd (omega (arith, within, past.0))
    | inl found ↦ step found.0 found.2 (reaches n (omega (arith, l)) (omega (arith, within)) found.0 found.2)
  ]
    where
      next : suc n ≡ n + 1
      next = omega arith

      there : slice_get path.links (n + 1) ≡ Some link
      there = subst (λ z. slice_get path.links z ≡ Some link) next e

      step : (above : Link) → slice_get path.links n ≡ Some above → Reaches n above → Reaches (suc n) link
      step above h r =
          let d : Hung (view_in s.past.config (s.past.at j).image) (form_at s.past.config (s.past.at j)) above link =
          hangs above link (is.links n above (omega (arith, l)) h) (is.links (suc n) link l e) (is.below n above link (omega (arith, l)) h there) in
          let of : reads_of (count_above (slice_get path.links (n + 1))) ≡ reads_of ((view_in s.past.config (s.past.at j).image).count ((form_at s.past.config (s.past.at j)).up link.slot)) =
          ap (λ z. reads_of (count_above z)) there ∙ (ap reads_of (sym d.count) ∙ ap (λ z. reads_of ((view_in s.past.config (s.past.at j).image).count z)) (sym d.up)) in
          let up : reads_above (view_in s.past.config (s.past.at j).image) (form_at s.past.config (s.past.at j)) above.slot n ≡ reads_above (view_in s.past.config (s.past.at j).image) (form_at s.past.config (s.past.at j)) ((form_at s.past.config (s.past.at j)).up link.slot) n =
          ap (λ z. reads_above (view_in s.past.config (s.past.at j).image) (form_at s.past.config (s.past.at j)) z n) (sym d.up) in
          record { low = omega (arith, d.level, r.low); reads = omega (arith, r.reads, of, up) }

pub paths-read-few : PathsReadFew
unfolding way_reads
paths-read-few s key path link j good alone is last in-j =
    let q : IsQuietSince s.past.since s.past = undisturbed.whole s good alone in
    let v : View = view_in s.past.config (s.past.at j).image in
    let r : Reaches s key path j good q is in-j (path.depth - 1) link = reaches s key path j good q is in-j (path.depth - 1) (omega (arith, is.some)) (slice_get_within path.links (path.depth - 1) link last) link last in
    let leaf : leaf_in s.past.config (s.past.at j).image key ≡ link.slot =
    (trees-stand s s.past.since s.past.now j good q (record { from = good.begun; to = omega arith }) in-j).leaf key ∙ paths-lead s key path link good alone is last in
    let more = more-above v (form v) link.slot (path.depth - 1) (v.height - 1) (omega (arith, r.low)) in
    omega (arith, r.reads, more, ap (λ z. reads_above v (form v) z (v.height - 1)) leaf)
