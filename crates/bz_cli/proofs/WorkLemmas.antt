-- What `clap` makes of the words of `work`: three numbers, and somewhere among them the limit on marks.
use Rattle.std.proofs.Common.{◌≡◌, ℕ, Bool, true, false, List, [], ◌∷◌, ◌++◌, codes, refl, ap, ap₂, ◌∙◌}
use Rattle.std.specs.Prelude.{Option, Some, None, ◌&&◌, fold, is_some, slice_get, unwrap_or}
use Rattle.std.specs.List.{list_all}
use Rattle.clap.proofs.OnLiterals.{clap_on_literals}
use Rattle.clap.specs.Walk.{Held, Rule, Walk, idle, value, walked, nothing_held, arg_by_index, to_positional, reacted, settled_rows, finished}
use Rattle.clap.specs.Simple.{Shape, built, new_shape, names_of, entered}
use Rattle.clap.specs.Takes.{turn_passes, walk_passes, step_passes, settle_passes, default_passes, is_valid, entered_passes}
use Rattle.bz_cli.specs.CommandLine.{Text}
use Rattle.bz_cli.specs.Inside.Parser.{bz_app, Seen, seen_at, seen_in, IsReadAs}
use Rattle.bz_cli.proofs.PlainLemmas.{IsPlain}
use Rattle.bz_cli.proofs.WalkLemmas.{idle_at, waits_at, value_walked, value_passes, waited_walked, waited_passes, stopped_walked, stopped_passes}

-- the subcommand `work`, as `clap` completes it
abbrev work : Shape
work = unwrap_or (slice_get (built bz_app).subs 5) (new_shape [])

abbrev marks : Rule
marks = unwrap_or (slice_get work.rules 3) (record { id = []; long = None; aliases = []; short = None; short_aliases = []; index = None; action = None; range = None; value_names = 0; defaults = []; missing = []; trailing_var_arg = false; parser = None; ignore_case = false; required = false; is_simple = true; is_free = true })

-- the words take the walk from one point to another, and pass
record Walks (from : Walk) (words : List Text) (end : Walk) : Type 0 where
  ends : fold (walked work.rules []) from words ≡ end
  passes : walk_passes work [] from words ≡ true

none : (w : Walk) → Walks w [] w
unfolding walk_passes
none w = record { ends = refl; passes = refl }

step : (from : Walk) (word : Text) (words : List Text) (mid end : Walk) → walked work.rules [] from word ≡ mid → turn_passes work [] from word ≡ true → Walks mid words end → Walks from (word ∷ words) end
unfolding walk_passes
step from word words mid end e passes h = record {
  ends = ap (λ (w : Walk). fold (walked work.rules []) w words) e ∙ h.ends;
  passes = ap₂ (λ (b c : Bool). b && c) passes (ap (λ (w : Walk). walk_passes work [] w words) e ∙ h.passes);
}

by_value : (h : Held) (p : ℕ) (x : Text) (words : List Text) (end : Walk) → IsPlain x → step_passes work p h value ≡ true
    → Walks (to_positional work.rules (arg_by_index work.rules p) x (idle_at h p) h) words end → Walks (idle_at h p) (x ∷ words) end
by_value h p x words end plain passes rest = step (idle_at h p) x words _ end (value_walked work h p x plain) (value_passes work h p x plain ∙ passes) rest

joined_walked : (h : Held) (p : ℕ) (number : Text) → walked work.rules [] (idle_at h p) (codes "--marks=" ++ number) ≡ idle_at (reacted work.rules marks (number ∷ []) h) p
unfolding clap_on_literals
joined_walked h p number = refl

by_joined : (h : Held) (p : ℕ) (number : Text) (words : List Text) (end : Walk) → turn_passes work [] (idle_at h p) (codes "--marks=" ++ number) ≡ true
    → Walks (idle_at (reacted work.rules marks (number ∷ []) h) p) words end → Walks (idle_at h p) ((codes "--marks=" ++ number) ∷ words) end
by_joined h p number words end passes rest = step (idle_at h p) (codes "--marks=" ++ number) words _ end (joined_walked h p number) passes rest

-- the option is met, and waits
abbrev met : Held → Held
met h = record { rows = settled_rows work.rules h.pending h.rows; pending = Some (codes "marks", []); skip = h.skip }

abbrev given : Held → Text → Held
given h number = record { rows = settled_rows work.rules h.pending h.rows; pending = Some (codes "marks", number ∷ []); skip = h.skip }

met_walked : (h : Held) (p : ℕ) → walked work.rules [] (idle_at h p) (codes "--marks") ≡ waits_at (met h) p (codes "marks")
unfolding clap_on_literals
met_walked h p = refl

by_apart : (h : Held) (p : ℕ) (number : Text) (words : List Text) (end : Walk) → IsPlain number → turn_passes work [] (idle_at h p) (codes "--marks") ≡ true
    → Walks (idle_at (given h number) p) words end → Walks (idle_at h p) (codes "--marks" ∷ number ∷ words) end
by_apart h p number words end plain passes rest =
    step (idle_at h p) (codes "--marks") (number ∷ words) _ end (met_walked h p) passes
    (step (waits_at (met h) p (codes "marks")) number words _ end (waited_walked work (met h) p (codes "marks") number plain) (waited_passes work (met h) p (codes "marks") number plain) rest)

-- what a level still asks for at the end of its words
abbrev ends_well : Walk → Bool
ends_well end = settle_passes work.rules work.args_override_self end.held && (list_all default_passes work.rules && is_valid work (finished work.rules end.held) false)

abbrev top : Shape
top = (built bz_app).top

stopped_at : List Text → Walk
stopped_at words = record { held = nothing_held; waiting = idle; position = 1; is_trailing = false; stopped = Some (codes "work", words) }

first_walked : walked top.rules (names_of (built bz_app)) (idle_at nothing_held 1) (codes "work") ≡ stopped_at []
unfolding clap_on_literals stopped_at
first_walked = refl

top_walked : (words : List Text) → fold (walked top.rules (names_of (built bz_app))) (idle_at nothing_held 1) (codes "work" ∷ words) ≡ stopped_at words
unfolding stopped_at
top_walked words = ap (λ (w : Walk). fold (walked top.rules (names_of (built bz_app))) w words) first_walked ∙ stopped_walked top.rules (names_of (built bz_app)) nothing_held 1 (codes "work") [] words

top_passes : (words : List Text) → walk_passes top (names_of (built bz_app)) (idle_at nothing_held 1) (codes "work" ∷ words) ≡ true
unfolding walk_passes stopped_at
top_passes words = ap (λ (w : Walk). walk_passes top (names_of (built bz_app)) w words) first_walked ∙ stopped_passes top (names_of (built bz_app)) nothing_held 1 (codes "work") [] words

-- what the command and its subcommand come to, where its walk has come to this
abbrev both_pass : Walk → Bool → Bool
both_pass end passes =
    entered_passes (built bz_app) end.stopped
    && (passes && (settle_passes top.rules top.args_override_self end.held && (list_all default_passes top.rules && is_valid top (finished top.rules end.held) (is_some (entered (built bz_app) end.stopped)))))

-- the words behind the name come to this
read_behind : (words : List Text) (end : Walk) (seen : Seen) → Walks (idle_at nothing_held 1) words end → ends_well end ≡ true → seen_at (codes "work", finished work.rules end.held) ≡ seen
    → IsReadAs (codes "work" ∷ words) seen
unfolding stopped_at
read_behind words end seen h well is = record {
  taken =
      ap₂ both_pass (top_walked words) (top_passes words)
      ∙ ap (λ (b : Bool). b && true) (ap₂ (λ (p : Bool) (w : Walk). p && ends_well w) h.passes h.ends ∙ well);
  found =
      ap (λ (w : Walk). seen_in (entered (built bz_app) w.stopped)) (top_walked words)
      ∙ (ap (λ (w : Walk). Some (seen_at (codes "work", finished work.rules w.held))) h.ends ∙ ap Some is);
}

-- three numbers, and what was found of the limit on marks
abbrev pub seen_work : Option Text → Text → Text → Text → Seen
seen_work marks a b c = record { name = codes "work"; marks = marks; seed = Some a; calls = Some b; workers = Some c }

module _ (a b c : Text) (pa : IsPlain a) (pb : IsPlain b) (pc : IsPlain c) where
  pub read_values : IsReadAs (codes "work" ∷ a ∷ b ∷ c ∷ []) (seen_work None a b c)
  read_values = read_behind _ _ _ (by_value _ _ a _ _ pa refl (by_value _ _ b _ _ pb refl (by_value _ _ c _ _ pc refl (none _)))) refl refl

  module _ (n : Text) where
    pub joined_0 : IsReadAs (codes "work" ∷ (codes "--marks=" ++ n) ∷ a ∷ b ∷ c ∷ []) (seen_work (Some n) a b c)
    joined_0 = read_behind _ _ _ (by_joined _ _ n _ _ refl (by_value _ _ a _ _ pa refl (by_value _ _ b _ _ pb refl (by_value _ _ c _ _ pc refl (none _))))) refl refl

    pub joined_1 : IsReadAs (codes "work" ∷ a ∷ (codes "--marks=" ++ n) ∷ b ∷ c ∷ []) (seen_work (Some n) a b c)
    joined_1 = read_behind _ _ _ (by_value _ _ a _ _ pa refl (by_joined _ _ n _ _ refl (by_value _ _ b _ _ pb refl (by_value _ _ c _ _ pc refl (none _))))) refl refl

    pub joined_2 : IsReadAs (codes "work" ∷ a ∷ b ∷ (codes "--marks=" ++ n) ∷ c ∷ []) (seen_work (Some n) a b c)
    joined_2 = read_behind _ _ _ (by_value _ _ a _ _ pa refl (by_value _ _ b _ _ pb refl (by_joined _ _ n _ _ refl (by_value _ _ c _ _ pc refl (none _))))) refl refl

    pub joined_3 : IsReadAs (codes "work" ∷ a ∷ b ∷ c ∷ (codes "--marks=" ++ n) ∷ []) (seen_work (Some n) a b c)
    joined_3 = read_behind _ _ _ (by_value _ _ a _ _ pa refl (by_value _ _ b _ _ pb refl (by_value _ _ c _ _ pc refl (by_joined _ _ n _ _ refl (none _))))) refl refl

    module _ (pn : IsPlain n) where
      pub apart_0 : IsReadAs (codes "work" ∷ codes "--marks" ∷ n ∷ a ∷ b ∷ c ∷ []) (seen_work (Some n) a b c)
      apart_0 = read_behind _ _ _ (by_apart _ _ n _ _ pn refl (by_value _ _ a _ _ pa refl (by_value _ _ b _ _ pb refl (by_value _ _ c _ _ pc refl (none _))))) refl refl

      pub apart_1 : IsReadAs (codes "work" ∷ a ∷ codes "--marks" ∷ n ∷ b ∷ c ∷ []) (seen_work (Some n) a b c)
      apart_1 = read_behind _ _ _ (by_value _ _ a _ _ pa refl (by_apart _ _ n _ _ pn refl (by_value _ _ b _ _ pb refl (by_value _ _ c _ _ pc refl (none _))))) refl refl

      pub apart_2 : IsReadAs (codes "work" ∷ a ∷ b ∷ codes "--marks" ∷ n ∷ c ∷ []) (seen_work (Some n) a b c)
      apart_2 = read_behind _ _ _ (by_value _ _ a _ _ pa refl (by_value _ _ b _ _ pb refl (by_apart _ _ n _ _ pn refl (by_value _ _ c _ _ pc refl (none _))))) refl refl

      pub apart_3 : IsReadAs (codes "work" ∷ a ∷ b ∷ c ∷ codes "--marks" ∷ n ∷ []) (seen_work (Some n) a b c)
      apart_3 = read_behind _ _ _ (by_value _ _ a _ _ pa refl (by_value _ _ b _ _ pb refl (by_value _ _ c _ _ pc refl (by_apart _ _ n _ _ pn refl (none _))))) refl refl
