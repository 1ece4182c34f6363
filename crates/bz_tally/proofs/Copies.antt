-- The swap of a consolidation puts the copy in the place of the leaf.
use Rattle.std.proofs.Common.{arith, ◌≡◌, ℕ, List, [], ◌∷◌, Some, sym, ap, subst, ◌∙◌, inl, inr}
use Rattle.bz_any_task.specs.FromConsol.Duties.{renewal_of}
use Rattle.bz_any_task.specs.FromConsol.Facts.{Renewal, consol_plan, consol_asks, consol_facts}
use Rattle.bz_writer.specs.Laws.{IsWritten}
use Rattle.bz_writer.specs.declared.phase.WritePhase.{WritePhase}
use Rattle.bz_writer.specs.declared.phase.WritePhase.TheVariants.{Swap}
use Rattle.bz_writer.proofs.Written.{holds, fresh as fresh-slot}
use Rattle.bz_layout.specs.declared.config.Config.{Config}
use Rattle.bz_leaves.proofs.Consolidations.{only-one}
use Rattle.bz_leaves.proofs.Proved.{consolidations_keep_the_leaves}
use Rattle.bz_renew.specs.FrozenLeaves.{StandsStill}
use Rattle.bz_renew.specs.LinkSwaps.{IsFresh}
use Rattle.bz_renew.specs.Renewals.{renewal}
use Rattle.bz_renew.specs.Turning.{TurnsAt}
use Rattle.bz_renew.proofs.FreshSlots.{outside-tree, raw-is, durable-is}
use Rattle.bz_renew.proofs.Proved.{child_links_turn, frozen_leaves_stand_still, root_links_turn}
use Rattle.bz_slotted.specs.ReadingLaws.{node_of}
use Rattle.bz_slotted.specs.Readers.{found_of}
use Rattle.bz_slotted.specs.Rules.{node_fault}
use Rattle.bz_word.specs.declared.entry.Entry.{Entry}
use Rattle.bz_content.specs.Content.{image_of}
use Rattle.bz_content.specs.Image.{node}
use Rattle.bz_content.specs.Swaps.{Consolidates, TurnsLink}
use Rattle.bz_content.proofs.Proved.{consolidations_keep_the_content, plain_words_stand_for_themselves}
use Rattle.bz_task.specs.Instant.{Instant, durable, form_at}
use Rattle.bz_task.specs.Laws.{SamePlace}
use Rattle.bz_task.specs.Scene.{Scene, Waiting, IsScene, here}
use Rattle.bz_task.specs.Swaps.{Stand, SwapsTo}
use Rattle.bz_task.specs.declared.todo.Todo.TheVariants.{Swap as Swaps_for}
use Rattle.bz_tally.proofs.Backs.{AreFresh, among-gone, leaf-inside, none-back}
use Rattle.bz_tally.proofs.Changes.{same-entries}
use Rattle.bz_tally.proofs.Links.{tree-now}
use Rattle.bz_tally.specs.Laws.{CopiesKeepTheLeaves}

module _ (r : Renewal) (s : Scene) (y : Instant) (good : IsScene s) (f : IsWritten (consol_plan r) s) (swaps : SwapsTo s.past.config (renewal r.link (r.slot 0)) (here s) y) where
  abbrev c : Config
  c = s.past.config

  abbrev old : ℕ
  old = r.link.slot

  fresh : IsFresh s (r.slot 0)
  fresh = fresh-slot (consol_plan r) s f 0 (omega arith)

  consolidates : (p i : ℕ) (changed : List ℕ) → TurnsAt r.link (r.slot 0) (old ∷ []) s y p i changed → Consolidates c (image_of (here s).image) (image_of y.image) old (r.slot 0)
  consolidates p i changed t = record {
    inside = t.inside;
    leaf = leaf.leaf t.inside;
    fresh = outside-tree s (r.slot 0) good fresh;
    whole = (λ j. node_fault c.nodes (raw_after j) (after j) 0 (place.low j) (place.high j)) ∙ f.ready.viewed.alike.whole;
    same = λ key. ap (λ n. found_of n key) after ∙ (f.ready.viewed.alike.found key ∙ sym (leaf.says t.inside key));
    link = turns;
  }
    where
      leaf : StandsStill old f.ready.viewed.moment s
      leaf = frozen_leaves_stand_still s old f.ready.viewed.moment good f.ready.viewed.leaf

      place : SamePlace c (s.past.at f.ready.viewed.moment) (here s) old
      place = leaf.place t.inside

      raw_after : node c y.image (r.slot 0) ≡ node_of r.image
      raw_after = raw-is plain_words_stand_for_themselves r.link (r.slot 0) (old ∷ []) s y p i changed (r.slot 0) good fresh t swaps ∙ holds (consol_plan r) s f 0 (omega arith)

      after : durable c y (r.slot 0) ≡ node_of r.image
      after = durable-is plain_words_stand_for_themselves r.link (r.slot 0) (old ∷ []) s y p i changed (r.slot 0) good fresh t swaps ∙ holds (consol_plan r) s f 0 (omega arith)

      turns : TurnsLink c (image_of (here s).image) (image_of y.image) ((form_at c (here s)).up old) ((form_at c (here s)).index old) (r.slot 0) (old ∷ [])
      turns =
          subst (λ j. TurnsLink c (image_of (here s).image) (image_of y.image) j ((form_at c (here s)).index old) (r.slot 0) (old ∷ [])) (sym t.up)
          (subst (λ j. TurnsLink c (image_of (here s).image) (image_of y.image) p j (r.slot 0) (old ∷ [])) (sym t.index) t.turns)

  -- where the link stands
  pub copied : Stand (renewal r.link (r.slot 0)) (here s) → Consolidates c (image_of (here s).image) (image_of y.image) r.link.slot (r.slot 0)
  copied stand = elim f.ready.viewed.guard.under [
    | inl root ↦ consolidates c.nodes 0 [] (root_links_turn s y r.link (r.slot 0) (old ∷ []) good root fresh.slot stand swaps)
    | inr node ↦ consolidates node.parent node.child.child (node.parent ∷ []) (child_links_turn s y r.link (r.slot 0) (old ∷ []) good f.ready.viewed.guard f.ready.viewed.thawed node fresh.slot stand swaps)
  ]

-- a consolidation that asks for a swap has its copy ready
swapping : (c : Config) (r : Renewal) (phase : WritePhase) (s : Scene) (entries : List Entry) → consol_facts r phase Waiting s → consol_asks c r phase ≡ Some (Swaps_for entries) → IsWritten (consol_plan r) s × (renewal r.link (r.slot 0) ≡ entries)
swapping c r Swap s entries f e = (f.1, same-entries (renewal r.link (r.slot 0)) entries e)
swapping c r phase s entries f e = absurd (cc)

pub copies : CopiesKeepTheLeaves
copies t entries s y w =
    let r : Renewal = renewal_of t in
    let f = swapping t.config r t.phase s entries w.knows w.asks in
    let d = copied r s y w.good f.0 (subst (λ z. SwapsTo s.past.config z (here s) y) (sym f.1) w.leads) (subst (λ z. Stand z (here s)) (sym f.1) w.stand) in
    let grows = consolidations_keep_the_content s.past.config (image_of (here s).image) (image_of y.image) t.link.slot (r.slot 0) (tree-now s w.good) d in
    let fresh : AreFresh s ((r.slot 0) ∷ []) = λ k e. subst (IsFresh s) (sym (only-one (r.slot 0) k e)) (fresh-slot (consol_plan r) s f.0 0 (omega arith)) in
    record {
      same = consolidations_keep_the_leaves s.past.config (image_of (here s).image) (image_of y.image) t.link.slot (r.slot 0) (tree-now s w.good) d;
      back = none-back s y (t.link.slot ∷ []) ((r.slot 0) ∷ []) w.good grows fresh;
      only = λ j leaf out. only-one t.link.slot j (among-gone s y (t.link.slot ∷ []) ((r.slot 0) ∷ []) w.good grows fresh j (leaf-inside s j leaf) out);
    }
