-- Over an image that breaks no rule all that a world keeps with its power off is true.
use Rattle.std.proofs.Common.{◌≡◌, ℕ, List, length, slice_index, get_or, sym, ap, subst, ◌∙◌, None, Option}
use Rattle.bz_content.specs.Content.{image_fault}
use Rattle.bz_content.specs.Resolving.{resolve}
use Rattle.bz_layout.specs.Addresses.{words_of}
use Rattle.bz_layout.specs.Config.{IsConfig}
use Rattle.bz_layout.specs.Slots.{FreeSlots, all_free}
use Rattle.bz_layout.specs.declared.config.Config.{Config}
use Rattle.bz_mark.specs.Log.{Log}
use Rattle.bz_sound.specs.Power.Growth.{FreshJournalsAreSound}
use Rattle.bz_sound.specs.Power.Sound.{IsSound}
use Rattle.bz_mark.specs.declared.power.Power.{Power}
use Rattle.bz_mark.specs.declared.power.Power.TheVariants as power
use Rattle.bz_refinement.specs.Reviving.{IsOffIn, ImagesOpenJournals}
use Rattle.bz_world.specs.Inside.Kept.{IsKept}
use Rattle.bz_world.specs.Inside.Opening.{IsMadeOver}
use Rattle.bz_world.specs.Leaves.{AreLeavesKept}
use Rattle.bz_world.specs.WorldView.{view_over}
use Rattle.bz_world.specs.declared.parts.Parts.{Parts}
use Rattle.bz_world.specs.declared.serving.OpenCall.{OpenCall}
use Rattle.bz_world.proofs.Openings.{tabled, same-everywhere}
use Rattle.bz_world.proofs.Powered.{kept-off}

pub kept-image : FreshJournalsAreSound → ImagesOpenJournals → (c : Config) (image : List ℕ) (p : Parts) → IsConfig c → length image ≡ words_of c → image_fault c (slice_index image) ≡ None → p.config ≡ c → p.slots ≡ all_free c.nodes
    → IsMadeOver image power.Off p → IsKept p
kept-image sounds images c image p config whole form same slots made = kept-off p made.power (record {
  dark = record {
    tabled = tabled image power.Off p made;
    sound = subst (λ (s : Power). IsSound p.config s p.journal) (sym made.at_start) (subst (IsSound p.config power.Off) (sym made.journal) (subst (λ d. IsSound d power.Off (view_over d image power.Off).log) (sym same) (sounds c power.Off image (view_over c image power.Off).log.limits whole form)));
    leaves = subst (λ (l : Log). AreLeavesKept p.config p.at_start l) (sym made.journal) tt;
    none = λ w. ap (λ (xs : List (Option OpenCall)). get_or xs w None) made.workers ∙ same-everywhere 65 w None;
    slots = ap (λ (s : FreeSlots). s.nodes) slots ∙ ap (λ (d : Config). d.nodes) (sym same);
    values = resolve (slice_index image);
  };
  memory = subst (IsOffIn p.config (resolve (slice_index image)) p.access) (sym made.journal)
      (images p.config p.access image (view_over p.config image power.Off).log.limits made.config (whole ∙ ap words_of (sym same)) (subst (λ d. image_fault d (slice_index image) ≡ None) (sym same) form) made.opened);
})
