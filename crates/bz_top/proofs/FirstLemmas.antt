-- A world in which nothing has happened, and its power coming on.
use Rattle.std.proofs.Common.{◌≡◌, ◌≢◌, inl, inr, ℕ, List, [], ◌∷◌, refl, sym, ap, subst, ◌∙◌, None}
use Rattle.bz_layout.specs.Addresses.{words_of}
use Rattle.bz_layout.specs.declared.config.Config.{Config}
use Rattle.bz_mark.specs.Log.{Limits}
use Rattle.bz_mark.specs.declared.marks.Mark.{Mark}
use Rattle.bz_script.specs.declared.item.Item.{Item}
use Rattle.bz_script.specs.declared.item.Item.TheVariants.{Power}
use Rattle.bz_mark.specs.declared.power.Power.{Power as State}
use Rattle.bz_mark.specs.declared.power.Power.TheVariants as power
use Rattle.bz_sched.specs.AtLimit.{MeetsLimit}
use Rattle.bz_sched.specs.Points.{Point}
use Rattle.bz_sched.specs.Recoveries.{Powers, PowersInPart}
use Rattle.bz_sched.specs.Runs.{point_with, Stays, HasPower}
use Rattle.bz_sched.specs.Scripts.{LeadsTo, LeadsToInPart, LeadsToWant}
use Rattle.bz_sched.specs.declared.running.RunEnd.{RunEnd}
use Rattle.bz_sched.specs.declared.running.RunEnd.TheVariants.{Finished, Cut, Limit}
use Rattle.bz_sched.specs.FromWorld.WorldView.{WorldView, power_in}
use Rattle.bz_top.specs.Endings.{at_first, items_from}
use Rattle.bz_top.specs.Items.{end_in, ItemsDone, ItemsRan, IsTurnedOn, TurnsOn}
use Rattle.bz_top.specs.declared.items.ItemsEnd.{ItemsEnd}
use Rattle.bz_top.specs.declared.items.ItemsEnd.TheVariants as end

pub steady_at_first : (world : WorldView) → world.at_start ≢ power.Recovering → world.log.past ≡ [] → power_in world ≢ power.Recovering
steady_at_first world known new = rw new known

-- it stands where nothing has happened and no call waits
first_point : (world : WorldView) → world.log.past ≡ [] → point_with world [] ≡ at_first
first_point world new = ap (λ (past : List Mark). record { past = past; queue = [] }) new

pub from_on : (state : State) (items : List Item) → state ≡ power.On → items_from state items ≡ items
from_on state items is = rw is refl

pub from_off : (state : State) (items : List Item) → state ≡ power.Off → items_from state items ≡ Power ∷ items
from_off state items is = rw is refl

module _ (old : WorldView) (new_world : old.log.past ≡ []) where
  -- the power is on already
  pub turned_already : power_in old ≡ power.On → IsTurnedOn old old
  turned_already on =
      let first : old.at_start ≡ power.On = rw new_world at on in
      record {
        stays = record { config = refl; at_start = refl; start = refl; limits = refl };
        on = on;
        items = λ items past h.
            subst (λ (is : List Item). LeadsTo old.at_start old.log.start (words_of old.config) None at_first is past) (sym (from_on old.at_start items first))
            (subst (λ (p : Point). LeadsTo old.at_start old.log.start (words_of old.config) None p items past) (first_point old new_world) h);
        in_part = λ why items past h.
            subst (λ (is : List Item). LeadsToInPart why old.log.limits old.at_start old.log.start (words_of old.config) None at_first is past) (sym (from_on old.at_start items first))
            (subst (λ (p : Point). LeadsToInPart why old.log.limits old.at_start old.log.start (words_of old.config) None p items past) (first_point old new_world) h);
        to_want = λ items past h.
            subst (λ (is : List Item). LeadsToWant old.at_start old.log.start (words_of old.config) None at_first is past) (sym (from_on old.at_start items first))
            (subst (λ (p : Point). LeadsToWant old.at_start old.log.start (words_of old.config) None p items past) (first_point old new_world) h);
      }

  -- or it comes on
  pub turns_on : (new : WorldView) (how : RunEnd) → power_in old ≡ power.Off → HasPower None old how new → TurnsOn old (end_in how) new
  turns_on new Finished off (stays, on, powers) =
      let first : old.at_start ≡ power.Off = rw new_world at off in
      let begun : Powers old.at_start None at_first (point_with new []) = subst (λ (p : Point). Powers old.at_start None p (point_with new [])) (first_point old new_world) (powers []) in
      record {
        stays = stays;
        on = on;
        items = λ items past h.
            subst (λ (is : List Item). LeadsTo old.at_start old.log.start (words_of old.config) None at_first is past) (sym (from_off old.at_start items first)) (point_with new [], inl begun, h);
        in_part = λ why items past h.
            subst (λ (is : List Item). LeadsToInPart why old.log.limits old.at_start old.log.start (words_of old.config) None at_first is past) (sym (from_off old.at_start items first)) (inr (point_with new [], inl begun, h));
        to_want = λ items past h.
            subst (λ (is : List Item). LeadsToWant old.at_start old.log.start (words_of old.config) None at_first is past) (sym (from_off old.at_start items first)) (point_with new [], inl begun, h);
      }
  turns_on new Cut off (stays, cut, powers, flush) = absurd (powers [])
  turns_on new (Limit which) off (stays, powers, met) =
      let first : old.at_start ≡ power.Off = rw new_world at off in
      let stopped : PowersInPart which old.at_start old.log.start (words_of old.config) None at_first (point_with new []) = subst (λ (p : Point). PowersInPart which old.at_start old.log.start (words_of old.config) None p (point_with new [])) (first_point old new_world) (powers []) in
      λ items. record {
        on = stays;
        follows = subst (λ (is : List Item). LeadsToInPart which old.log.limits old.at_start old.log.start (words_of old.config) None at_first is new.log.past) (sym (from_off old.at_start items first)) (inl (point_with new [], stopped, subst (λ (limits : Limits). MeetsLimit limits new.log.past which) stays.limits met, refl));
      }

-- then the items are done
both_stay : (old mid new : WorldView) → Stays old mid → Stays mid new → Stays old new
both_stay old mid new h k = record { config = k.config ∙ h.config; at_start = k.at_start ∙ h.at_start; start = k.start ∙ h.start; limits = k.limits ∙ h.limits }

pub done_behind : (old mid new : WorldView) (items : List Item) (how : ItemsEnd) → IsTurnedOn old mid → ItemsDone (point_with mid []) mid items how new → ItemsRan old items how new
done_behind old mid new items end.Finished turned done = record {
  on = both_stay old mid new turned.stays done.on;
  follows = turned.items items new.log.past
      (subst (λ (s : State). LeadsTo s old.log.start (words_of old.config) None (point_with mid []) items new.log.past) turned.stays.at_start
      (subst (λ (start : List ℕ). LeadsTo mid.at_start start (words_of old.config) None (point_with mid []) items new.log.past) turned.stays.start
      (subst (λ (c : Config). LeadsTo mid.at_start mid.log.start (words_of c) None (point_with mid []) items new.log.past) turned.stays.config done.follows)));
}
done_behind old mid new items (end.Limit why) turned done = record {
  on = both_stay old mid new turned.stays done.on;
  follows = turned.in_part why items new.log.past
      (subst (λ (s : State). LeadsToInPart why old.log.limits s old.log.start (words_of old.config) None (point_with mid []) items new.log.past) turned.stays.at_start
      (subst (λ (start : List ℕ). LeadsToInPart why old.log.limits mid.at_start start (words_of old.config) None (point_with mid []) items new.log.past) turned.stays.start
      (subst (λ (c : Config). LeadsToInPart why old.log.limits mid.at_start mid.log.start (words_of c) None (point_with mid []) items new.log.past) turned.stays.config
      (subst (λ (limits : Limits). LeadsToInPart why limits mid.at_start mid.log.start (words_of mid.config) None (point_with mid []) items new.log.past) turned.stays.limits done.follows))));
}
done_behind old mid new items end.Memory turned done = record {
  on = both_stay old mid new turned.stays done.on;
  follows = turned.to_want items new.log.past
      (subst (λ (s : State). LeadsToWant s old.log.start (words_of old.config) None (point_with mid []) items new.log.past) turned.stays.at_start
      (subst (λ (start : List ℕ). LeadsToWant mid.at_start start (words_of old.config) None (point_with mid []) items new.log.past) turned.stays.start
      (subst (λ (c : Config). LeadsToWant mid.at_start mid.log.start (words_of c) None (point_with mid []) items new.log.past) turned.stays.config done.follows)));
}
