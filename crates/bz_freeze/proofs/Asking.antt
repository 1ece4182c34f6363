-- What a freeze asks for may be asked for, and what it knows once its swap took effect.
use Rattle.std.proofs.Common.{◌≡◌, ℕ, ◌+◌, true, false, List, [], ◌∷◌, arith, refl, sym, ap, subst, ◌∙◌, inl, inr, Some}
use Rattle.std.specs.Prelude.{All}
use Rattle.std.proofs.lemmas.List.Elements.{All-cons}
use Rattle.bz_layout.specs.Addresses.{node_address}
use Rattle.bz_layout.specs.declared.config.Config.{Config}
use Rattle.bz_layout.specs.declared.sizes.TheConstants.{STATUS_AT}
use Rattle.bz_tree.specs.Form.{Holds}
use Rattle.bz_tree.proofs.Proved.{leaves_tile_the_keys}
use Rattle.bz_word.specs.Statuses.{status}
use Rattle.bz_word.specs.declared.entry.Entry.{Entry}
use Rattle.bz_content.specs.Content.{view_in, IsWellFormed}
use Rattle.bz_content.proofs.Proved.{well_formed_images_have_no_fault}
use Rattle.bz_task.specs.Good.{IsGood}
use Rattle.bz_task.specs.Instant.{Instant, words, page_at, form_at}
use Rattle.bz_task.specs.Outcomes.{IsView}
use Rattle.bz_task.specs.Requests.{IsEntryToAsk, IsAskable}
use Rattle.bz_task.specs.Scene.{Scene, Waiting, Took, IsScene, here}
use Rattle.bz_task.specs.Swaps.{Stand, SwapsTo, IsGoodSwap, Takes}
use Rattle.bz_task.specs.declared.todo.Todo.{Todo}
use Rattle.bz_task.specs.declared.todo.Todo.TheVariants.{Swap as Swaps_for}
use Rattle.bz_task.specs.declared.view.LeafView.{LeafView}
use Rattle.bz_task.specs.Steps.{frozen_word}
use Rattle.bz_task.proofs.FrozenWords.{frozen-plain, frozen-reads}
use Rattle.bz_task.proofs.Proved.{fronts_stay, swaps_show_in_slots}
use Rattle.bz_freeze.specs.Facts.{WasLeaf, WasFrozen, entry_of, freeze_asks, freeze_facts, freeze_change}
use Rattle.bz_freeze.specs.declared.phase.FreezePhase.{FreezePhase}
use Rattle.bz_freeze.specs.declared.phase.FreezePhase.TheVariants.{Fresh, Swap, Done, Restart, Full}
use Rattle.bz_freeze.proofs.Freezing.{set-one, freezes}

-- the leaf of a view
pub was-leaf : (key : List ℕ) (view : LeafView) (s : Scene) → IsScene s → IsView key view s.past → (status view.status).frozen ≡ false → WasLeaf view.slot view.status s.past
was-leaf key view s good v f =
    let g : IsGood s.past.config (s.past.at view.at) = good.history.good view.at v.since v.now in
    let w : IsWellFormed s.past.config (s.past.at view.at).image = (well_formed_images_have_no_fault s.past.config (s.past.at view.at).image).0 g.form in
    let h : Holds (form_at s.past.config (s.past.at view.at)) key view.slot = (leaves_tile_the_keys (view_in s.past.config (s.past.at view.at).image) w.tree key view.slot).1 v.leaf in
    record { moment = view.at; since = v.since; now = v.now; slot = v.slot; inside = h.inside; leaf = h.leaf; was = v.status; thawed = f; plain = v.plain }

some-same : (a b : Todo) → Some a ≡ Some b → a ≡ b
some-same a b e = cc

same-entries : (a b : List Entry) → Some (Swaps_for a) ≡ Some (Swaps_for b) → a ≡ b
same-entries a b e = cc

-- it is still reached
reached-now : (s : Scene) (k st : ℕ) → IsScene s → WasLeaf k st s.past → (here s).reached k ≡ true
reached-now s k st good w =
    let g : IsGood s.past.config (s.past.at w.moment) = good.history.good w.moment w.since w.now in
    let r : (s.past.at w.moment).reached k ≡ true = g.inside k w.inside (λ e. omega (arith, e, w.slot)) in
    (fronts_stay s.past.config s.past.at s.past.since s.past.now w.moment s.past.now k good.history (record { since = w.since; order = w.now; until = omega arith }) r).reached

entry-asked : (s : Scene) (k st : ℕ) → IsScene s → WasLeaf k st s.past → IsEntryToAsk s (entry_of s.past.config k st)
entry-asked s k st good w = record {
  target = inr (inr (record {
    slot = k;
    place = STATUS_AT;
    address = refl;
    within = omega arith;
    reached = reached-now s k st good w;
    kind = inl refl;
  }));
  expected = w.plain;
  new = frozen-plain st w.plain;
}

pub askable : (c : Config) (k st : ℕ) (phase : FreezePhase) (s : Scene) (todo : Todo) → s.past.config ≡ c → freeze_facts k st phase Waiting s → IsScene s
    → freeze_asks c k st phase ≡ Some todo → IsAskable s todo
askable c k st Fresh s todo same f good e = absurd (cc)
askable c k st Swap s todo same f good e =
    subst (IsAskable s) (some-same _ todo e)
    (subst (λ z. All (IsEntryToAsk s) (entry_of z k st ∷ [])) same
    (All-cons (IsEntryToAsk s) (entry_of s.past.config k st) [] (entry-asked s k st good f.1) (λ i d l. absurd (omega (arith, l)))))
askable c k st Done s todo same f good e = subst (IsAskable s) (some-same _ todo e) tt
askable c k st Restart s todo same f good e = subst (IsAskable s) (some-same _ todo e) tt
askable c k st Full s todo same f good e = subst (IsAskable s) (some-same _ todo e) tt

-- the effect of the swap that it asks for
pub effect : (c : Config) (k st : ℕ) (phase : FreezePhase) (s : Scene) (y : Instant) (entries : List Entry) → s.past.config ≡ c → freeze_facts k st phase Waiting s → IsScene s
    → freeze_asks c k st phase ≡ Some (Swaps_for entries) → Stand entries (here s) → SwapsTo s.past.config entries (here s) y → IsGoodSwap false freeze_change entries s y
effect c k st Fresh s y entries same f good e stand swaps = absurd (cc)
effect c k st Swap s y entries same f good e stand swaps =
    let is : entries ≡ entry_of s.past.config k st ∷ [] = sym (same-entries _ entries e) ∙ ap (λ z. entry_of z k st ∷ []) (sym same) in
    subst (λ z. IsGoodSwap false freeze_change z s y) (sym is) (freezes s y k st good f.1 (subst (λ z. Stand z (here s)) is stand) (subst (λ z. SwapsTo s.past.config z (here s) y) is swaps))
effect c k st Done s y entries same f good e stand swaps = absurd (cc)
effect c k st Restart s y entries same f good e stand swaps = absurd (cc)
effect c k st Full s y entries same f good e stand swaps = absurd (cc)

-- the leaf is frozen after it
now-frozen : (k st : ℕ) (s after : Scene) → IsScene s → WasLeaf k st s.past → IsScene after
    → Takes false (entry_of s.past.config k st ∷ []) s after → WasFrozen k after.past
now-frozen k st s after good w later t = record {
  moment = after.past.now;
  since = later.begun;
  now = omega arith;
  reached = t.swaps.reached k ∙ rw (reached-now s k st good w) refl;
  frozen = subst (λ c. (page_at c (here after) k).frozen ≡ true) (sym t.continues.config) (ap (λ z. (status z).frozen) new ∙ ap (λ z. z.frozen) (frozen-reads st w.plain));
}
  where
    new : words s.past.config (here after) k STATUS_AT ≡ frozen_word st
    new = ((swaps_show_in_slots s.past.config (entry_of s.past.config k st ∷ []) (here s) (here after) k t.swaps).within STATUS_AT (omega arith)).value
        ∙ set-one (entry_of s.past.config k st) (here s).value (node_address s.past.config k + STATUS_AT) refl

pub took : (c : Config) (k st : ℕ) (phase : FreezePhase) (s after : Scene) (entries : List Entry) → s.past.config ≡ c → freeze_facts k st phase Waiting s → IsScene s → IsScene after
    → freeze_asks c k st phase ≡ Some (Swaps_for entries) → Takes false entries s after → freeze_facts k st phase Took after
took c k st Fresh s after entries same f good later e t = absurd (cc)
took c k st Swap s after entries same f good later e t =
    let is : entries ≡ entry_of s.past.config k st ∷ [] = sym (same-entries _ entries e) ∙ ap (λ z. entry_of z k st ∷ []) (sym same) in (
      λ j h. t.filled j ∙ f.0 j (sym (t.took j) ∙ h),
      now-frozen k st s after good f.1 later (subst (λ z. Takes false z s after) is t),
    )
took c k st Done s after entries same f good later e t = absurd (cc)
took c k st Restart s after entries same f good later e t = absurd (cc)
took c k st Full s after entries same f good later e t = absurd (cc)
