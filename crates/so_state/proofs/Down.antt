-- The way down to the leaf that a state stands for.
use Rattle.std.proofs.Common.{◌≡◌, ℕ, zero, suc, ◌+◌, ◌-◌, ◌<◌, List, length, Option, Some, None, arith, refl, ap, ◌∙◌}
use Rattle.std.specs.Prelude.{unwrap_or}
use Rattle.so_ids.specs.declared.StateId.{StateId}
use Rattle.so_state.specs.declared.states.State.{State}
use Rattle.so_state.specs.declared.states.History.{History}
use Rattle.so_state.specs.declared.states.History.TheVariants.{None as NoHistory, Shallow, Deep}
use Rattle.so_state.specs.States.{initial_of, history_of}
use Rattle.so_state.specs.Memory.{kept, StandsFor}
use Rattle.so_state.specs.Plan.{toward, down_by, down, resolve_within, resolve, newest_below}

-- with steps left, the way goes on
pub resolve_within-left : (n i : ℕ) (states : List State) (newest : StateId → Option StateId) (s : StateId) → i < n → resolve_within (n - i) states newest s ≡ down (resolve_within (n - (i + 1)) states newest) states s (newest s) (initial_of states s)
resolve_within-left n i states newest s h =
    let e : n - i ≡ suc (n - (i + 1)) = omega arith in
    ap (λ k. resolve_within k states newest s) e

down_by-same : (f g : StateId → StateId) (states : List State) (s : StateId) (history : History) (newest : Option StateId) (initial : StateId) → ((t : StateId) → f t ≡ g t) → down_by f states s history newest initial ≡ down_by g states s history newest initial
down_by-same f g states s NoHistory newest initial same = same initial
down_by-same f g states s Shallow None initial same = same initial
down_by-same f g states s Shallow (Some low) initial same = same (unwrap_or (toward states s low) initial)
down_by-same f g states s Deep None initial same = same initial
down_by-same f g states s Deep (Some low) initial same = refl

down-same : (f g : StateId → StateId) (states : List State) (s : StateId) (newest initial : Option StateId) → ((t : StateId) → f t ≡ g t) → down f states s newest initial ≡ down g states s newest initial
down-same f g states s newest None same = refl
down-same f g states s newest (Some initial) same = down_by-same f g states s (history_of states s) newest initial same

resolve_within-same : (n : ℕ) (states : List State) (newest newest' : StateId → Option StateId) (s : StateId) → ((s : StateId) → newest s ≡ newest' s) → resolve_within n states newest s ≡ resolve_within n states newest' s
resolve_within-same zero states newest newest' s same = refl
resolve_within-same (suc n) states newest newest' s same =
    ap (λ o. down (resolve_within n states newest) states s o (initial_of states s)) (same s)
    ∙ down-same (resolve_within n states newest) (resolve_within n states newest') states s (newest' s) (initial_of states s) (λ t. resolve_within-same n states newest newest' t same)

-- what is kept leads where the list of leaves does
pub resolve_within-kept : (states : List State) (memory : List (Option StateId)) (leaves : List StateId) (to : StateId) → StandsFor states memory leaves → resolve_within (length states) states (kept memory) to ≡ resolve states leaves to
resolve_within-kept states memory leaves to stands = resolve_within-same (length states) states (kept memory) (newest_below states leaves) to stands.each

pub ruleset downs = (resolve_within-left)

pub ruleset plans = (resolve_within-kept)
