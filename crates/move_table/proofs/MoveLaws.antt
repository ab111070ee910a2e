-- A whole move: what it needs at each step, and what it leaves.
use Rattle.std.proofs.Common.{◌≡◌, ℕ, ◌+◌, ◌*◌, ◌<◌, ◌≤◌, Bool, true, false, List, [], ◌∷◌, ◌++◌, map, length, nat_eq}
use Rattle.std.proofs.Common.{if◌then◌else◌, Option, Some, None, ℤ, pos, ◌+ℤ◌, refl, sym, ap, ◌∙◌, subst, arith}
use Rattle.std.proofs.lemmas.Bool.{eq-eqb, true≢false}
use Rattle.std.proofs.lemmas.List.Elements.{All-nil, All-append, All-cons}
use Rattle.std.proofs.Math.Seq.{take-length}
use mathlib.Core.List.{map-append}
use Rattle.hg_defs.specs.declared.moves.Move.{Move}
use Rattle.hg_defs.specs.Sums.{total_z}
use Rattle.hg_defs.proofs.SumLaws.{total_z_push}
use Rattle.hg_defs.specs.Hypergraph.{vertex_count}
use Rattle.hg_defs.specs.Partition.{block_of}
use Rattle.hg_defs.specs.Incidence.{nets_of}
use Rattle.atomic_table.specs.Seated.{TableId}
use Rattle.atomic_table.specs.Table.{Me}
use Rattle.move_core.specs.declared.account.Account.{Account}
use Rattle.move_core.specs.declared.account.Owed.TheVariants.{Nothing}
use Rattle.move_core.specs.declared.account.Stage.{Stage}
use Rattle.move_core.specs.declared.account.Stage.TheVariants.{Idle, Moving}
use Rattle.move_core.specs.declared.events.Event.TheVariants.{Draw, Name, Raise, Widen, Lower, Narrow, GiveBack}
use Rattle.move_core.specs.State.{Setup}
use Rattle.move_core.specs.Stages.{vertex_at, from_at, to_at, is_idle, move_at, number_at}
use Rattle.move_core.specs.Events.{may_step}
use Rattle.move_table.specs.declared.view.Terms.{Terms}
use Rattle.move_table.specs.declared.view.View.{View}
use Rattle.move_table.specs.declared.grant.Grant.{Grant}
use Rattle.move_table.specs.declared.grant.Done.{Done}
use Rattle.move_table.specs.Places.{word_count, next_place, name_place, load_place}
use Rattle.move_table.specs.Standing.{terms_setup}
use Rattle.move_table.specs.Steps.{IsReady, acted}
use Rattle.move_table.specs.Calls.{IsGrantOf, AreGrantsOf, stage_of, booked_at_nets, IsMover, IsMoveMade, IsPass, NetFinds}
use Rattle.move_table.specs.Calls.{ArePassed, granted, passed_net, passed_nets, raised_view, lowered_view}
use Rattle.move_table.proofs.CarryLaws.{on_the_way}
use Rattle.move_table.proofs.ReadyLaws.{ready}

module _ (t : Terms) (i : ℕ) (grant : Grant) (ok : IsGrantOf t grant) (table : TableId) (wide : table.words ≡ word_count (terms_setup t)) (v : View)
    (m : IsMover t i v) (w : ℕ) where
  abbrev g : Setup
  g = terms_setup t

  pub draw_ready : v.account.stage ≡ granted grant → w ≡ next_place g → IsReady table t v (Draw i) w
  draw_ready at place = ready table t v (Draw i) w wide m.terms m.live (sym m.number)
      (subst (λ s. may_step g (Draw i) (record v.account { stage = s }) ≡ true)
      (sym at) refl) tt place

  pub name_ready : (n : ℕ) → v.account.stage ≡ Moving grant.vertex grant.from grant.to n false 0 0 Nothing (pos 0) → w ≡ name_place g grant.vertex →
      IsReady table t v (Name i) w
  name_ready n at place =
      let P : Stage → Type 0 = λ s. IsReady table t (record v { account = record v.account { stage = s } }) (Name i) w in
      subst P (sym at) (ready table t (record v {
        account = record v.account {
          stage = Moving grant.vertex grant.from grant.to n false 0 0 Nothing (pos 0);
        };
      })
      (Name i) w wide m.terms m.live (sym m.number) refl ok.vertex place)

  pub give_ready : (n : ℕ) (b : ℤ) → v.account.stage ≡ on_the_way grant n (length (nets_of t.part.hyper grant.vertex))
      (length (nets_of t.part.hyper grant.vertex)) Nothing b → w ≡ load_place g grant.from → IsReady table t v (GiveBack i) w
  give_ready n b at place =
      let P : Stage → Type 0 = λ s. IsReady table t (record v { account = record v.account { stage = s } }) (GiveBack i) w in
      let d = length (nets_of t.part.hyper grant.vertex) in
      subst P (sym at) (ready table t (record v { account = record v.account { stage = on_the_way grant n d d Nothing b } }) (GiveBack i) w wide m.terms
      m.live
      (sym m.number) (eq-eqb d d refl) ok.block place)

-- ---- what the nets leave alone

pub record IsSameButStage (v u : View) : Type 0 where
  pub live : u.account.live ≡ v.account.live
  pub held : u.account.held ≡ v.account.held
  pub moves : u.account.moves ≡ v.account.moves
  pub numbers : u.account.numbers ≡ v.account.numbers
  pub seeds : u.account.seeds ≡ v.account.seeds
  pub stands : u.stands ≡ v.stands
  pub may : u.may ≡ v.may
  pub terms : u.terms ≡ v.terms
  pub number : u.number ≡ v.number

same_refl : (v : View) → IsSameButStage v v
same_refl v = record { live = refl; held = refl; moves = refl; numbers = refl; seeds = refl; stands = refl; may = refl; terms = refl; number = refl }

same_then : (v u w : View) → IsSameButStage v u → IsSameButStage u w → IsSameButStage v w
same_then v u w a b = record {
  live = b.live ∙ a.live;
  held = b.held ∙ a.held;
  moves = b.moves ∙ a.moves;
  numbers = b.numbers ∙ a.numbers;
  seeds = b.seeds ∙
      a.seeds;
  stands = b.stands ∙ a.stands;
  may = b.may ∙ a.may;
  terms = b.terms ∙ a.terms;
  number = b.number ∙ a.number;
}

same_raised : (i c s : ℕ) (v : View) → IsSameButStage v (raised_view i c s v)
same_raised i c s v = by (nat_eq c 0)
  where
    by : (z : Bool) → IsSameButStage v (if z then acted (Widen i) s (acted (Raise i) c v) else acted (Raise i) c v)
    by true = record { live = refl; held = refl; moves = refl; numbers = refl; seeds = refl; stands = refl; may = refl; terms = refl; number = refl }
    by false = record { live = refl; held = refl; moves = refl; numbers = refl; seeds = refl; stands = refl; may = refl; terms = refl; number = refl }

same_lowered : (i c s : ℕ) (v : View) → IsSameButStage v (lowered_view i c s v)
same_lowered i c s v = by (nat_eq c 1)
  where
    by : (z : Bool) → IsSameButStage v (if z then acted (Narrow i) s (acted (Lower i) c v) else acted (Lower i) c v)
    by true = record { live = refl; held = refl; moves = refl; numbers = refl; seeds = refl; stands = refl; may = refl; terms = refl; number = refl }
    by false = record { live = refl; held = refl; moves = refl; numbers = refl; seeds = refl; stands = refl; may = refl; terms = refl; number = refl }

pub same_passed : (i : ℕ) (fs : List NetFinds) (v : View) → IsSameButStage v (passed_nets i fs v)
same_passed i [] v = same_refl v
same_passed i (f ∷ fs) v =
    let u = raised_view i f.raised f.widened v in
    same_then v (passed_net i f v) (passed_nets i fs (passed_net i f v))
    (same_then v u (passed_net i f v) (same_raised i f.raised f.widened v) (same_lowered i f.lowered f.narrowed u))
    (same_passed i fs (passed_net i f v))

-- ---- how many steps they take

steps_raised : (i c s : ℕ) (v : View) → (v.steps + 1 ≤ (raised_view i c s v).steps) × ((raised_view i c s v).steps ≤ v.steps + 2)
steps_raised i c s v = by (nat_eq c 0)
  where
    by : (z : Bool) → (v.steps + 1 ≤ (if z then acted (Widen i) s (acted (Raise i) c v) else acted (Raise i) c v).steps) ×
        ((if z then acted (Widen i) s (acted (Raise i) c v) else acted (Raise i) c v).steps ≤ v.steps + 2)
    by true = (omega arith, omega arith)
    by false = (omega arith, omega arith)

steps_lowered : (i c s : ℕ) (v : View) → (v.steps + 1 ≤ (lowered_view i c s v).steps) × ((lowered_view i c s v).steps ≤ v.steps + 2)
steps_lowered i c s v = by (nat_eq c 1)
  where
    by : (z : Bool) → (v.steps + 1 ≤ (if z then acted (Narrow i) s (acted (Lower i) c v) else acted (Lower i) c v).steps) ×
        ((if z then acted (Narrow i) s (acted (Lower i) c v) else acted (Lower i) c v).steps ≤ v.steps + 2)
    by true = (omega arith, omega arith)
    by false = (omega arith, omega arith)

pub steps_passed : (i : ℕ) (fs : List NetFinds) (v : View) → (v.steps + 2 * length fs ≤ (passed_nets i fs v).steps) ×
    ((passed_nets i fs v).steps ≤ v.steps + 4 * length fs)
steps_passed i [] v = (omega arith, omega arith)
steps_passed i (f ∷ fs) v =
    let u = raised_view i f.raised f.widened v in
    let a = steps_raised i f.raised f.widened v in
    let b = steps_lowered i f.lowered f.narrowed u in
    let c = steps_passed i fs (passed_net i f v) in
    let a0 = a.0 in
    let a1 = a.1 in
    let b0 = b.0 in
    let b1 = b.1 in
    let c0 = c.0 in
    let c1 = c.1 in
    (omega arith, omega arith)

-- ---- the grant that a pass holds

pub grant_known : (t : Terms) (o : Option Grant) (grant : Grant) → stage_of o ≡ granted grant → AreGrantsOf t o → IsGrantOf t grant
grant_known t None grant e h = absurd (true≢false (ap is_idle e))
grant_known t (Some x) grant e h = record {
  vertex = subst (λ z. z < vertex_count t.part.hyper) (ap vertex_at e) h.vertex;
  from = sym (ap from_at e) ∙ h.from ∙ ap (block_of t.part.blocks) (ap vertex_at e);
  block = subst (λ z. z < t.part.k) (ap from_at e) h.block;
  to = subst (λ z. z < t.part.k) (ap to_at e) h.to;
}

-- ---- the whole move

abbrev pub move_of : ℕ → Grant → ℤ → Move
move_of i grant gain = record { vertex = grant.vertex; from = grant.from; to = grant.to; worker = i; booked = gain }

module _ (t : Terms) (i : ℕ) (grant : Grant) (v v1 v2 v3 v4 : View) (drawn given : ℕ) (gain : ℤ) (at : v.account.stage ≡ granted grant)
    (e1 : v1 ≡ acted (Draw i) drawn v) (e2 : v2 ≡ acted (Name i) grant.from v1)
    (p : ArePassed (terms_setup t) i grant drawn (length (nets_of t.part.hyper grant.vertex)) v2 v3 gain) where
  pub begun : v2 ≡ acted (Name i) grant.from (acted (Draw i) drawn v)
  begun = e2 ∙ ap (acted (Name i) grant.from) e1

  pub same_to_end : IsSameButStage v v3
  same_to_end =
      subst (IsSameButStage v) (sym p.leads)
      (same_then v v2 (passed_nets i p.finds v2)
      (subst (IsSameButStage v) (sym begun) (record {
        live = refl;
        held = refl;
        moves = refl;
        numbers = refl;
        seeds = refl;
        stands = refl;
        may = refl;
        terms = refl;
        number = refl;
      }))
      (same_passed i p.finds v2))

  pub gain_to_end : v3.account.gain ≡ v.account.gain +ℤ gain
  gain_to_end = p.all ∙ ap (λ (z : View). z.account.gain +ℤ gain) begun

  module _ (e4 : v4 ≡ acted (GiveBack i) given v3) where
    pub made_account : v4.account ≡ record v.account {
      stage = Idle;
      moves = v.account.moves ++ move_of i grant gain ∷ [];
      numbers = v.account.numbers ++
          drawn ∷ [];
      gain = v.account.gain +ℤ gain;
    }
    made_account =
        let live : v4.account.live ≡ v.account.live = ap (λ (z : View). z.account.live) e4 ∙ same_to_end.live in
        let held : v4.account.held ≡ v.account.held = ap (λ (z : View). z.account.held) e4 ∙ same_to_end.held in
        let seeds : v4.account.seeds ≡ v.account.seeds = ap (λ (z : View). z.account.seeds) e4 ∙ same_to_end.seeds in
        let stage : v4.account.stage ≡ Idle = ap (λ (z : View). z.account.stage) e4 in
        let all : v4.account.gain ≡ v.account.gain +ℤ gain = ap (λ (z : View). z.account.gain) e4 ∙ gain_to_end in
        let moves : v4.account.moves ≡ v.account.moves ++ move_of i grant gain ∷ [] =
        ap (λ (z : View). z.account.moves) e4 ∙ ap (λ s. v3.account.moves ++ move_at i s) p.stage ∙ ap (λ xs. xs ++ move_of i grant gain ∷ [])
        same_to_end.moves in
        let numbers : v4.account.numbers ≡ v.account.numbers ++ drawn ∷ [] =
        ap (λ (z : View). z.account.numbers) e4 ∙ ap (λ s. v3.account.numbers ++ number_at s) p.stage ∙ ap (λ xs. xs ++ drawn ∷ []) same_to_end.numbers in
        λ k. record { live = live k; held = held k; stage = stage k; moves = moves k; numbers = numbers k; seeds = seeds k; gain = all k }

    pub move_made : IsMoveMade (terms_setup t) i grant v v4 gain
    move_made =
        let nets = nets_of t.part.hyper grant.vertex in
        let steps = steps_passed i p.finds v2 in
        let low = steps.0 in
        let high = steps.1 in
        let s2 : v2.steps ≡ v.steps + 1 + 1 = ap (λ (z : View). z.steps) begun in
        let s3 : v3.steps ≡ (passed_nets i p.finds v2).steps = ap (λ (z : View). z.steps) p.leads in
        let s4 : v4.steps ≡ v3.steps + 1 = ap (λ (z : View). z.steps) e4 in
        let each = p.each in
        record {
          drawn = drawn;
          finds = p.finds;
          given = given;
          each = p.each;
          gains = p.gains ∙ ap (λ es. booked_at_nets (terms_setup t) es p.finds) (take-length nets);
          leads = e4 ∙ ap (acted (GiveBack i) given) (p.leads ∙ ap (passed_nets i p.finds) begun);
          account = made_account;
          least = omega arith;
          most = omega arith;
        }

-- the pass that has made the move
pub carried_pass : (i : ℕ) (o : Option Grant) (done : List Done) (gain booked : ℤ) (drawn : ℕ) (grant : Grant) (me me' : Me (Unit {0}) View) →
    IsPass i o done gain me → me'.1 ≡ [] → me'.0.number ≡ me.0.number → me'.0.stands ≡ me.0.stands → me'.0.may ≡ me.0.may →
    me'.0.account ≡ record me.0.account {
      stage = Idle;
      moves = me.0.account.moves ++ move_of i grant booked ∷ [];
      numbers = me.0.account.numbers ++ drawn ∷ [];
      gain = me.0.account.gain +ℤ booked;
    } → IsPass i None (done ++ record { number = drawn; action = move_of i grant booked } ∷ []) (gain +ℤ booked) me'
carried_pass i o done gain booked drawn grant me me' p empty number stands may account =
    let d : Done = record { number = drawn; action = move_of i grant booked } in
    record {
      empty = empty;
      number = number ∙ p.number;
      live = ap (λ (z : Account). z.live) account ∙ p.live;
      stage = ap (λ (z : Account). z.stage) account;
      moves = ap (λ (z : Account). z.moves) account ∙ ap (λ xs. xs ++ move_of i grant booked ∷ []) p.moves ∙
          sym (map-append (λ (z : Done). z.action) done (d ∷ []));
      numbers = ap (λ (z : Account). z.numbers) account ∙ ap (λ xs. xs ++ drawn ∷ []) p.numbers ∙ sym (map-append (λ (z : Done). z.number) done (d ∷ []));
      all = ap (λ (z : Account). z.gain) account ∙ ap (λ x. x +ℤ booked) p.all;
      booked = ap (λ x. x +ℤ booked) p.booked ∙ sym (total_z_push (λ (m : Move). m.booked) (map (λ (z : Done). z.action) done) (move_of i grant booked)) ∙
          ap (total_z (λ (m : Move). m.booked)) (sym (map-append (λ (z : Done). z.action) done (d ∷ [])));
      own = All-append (λ (z : Done). z.action.worker ≡ i) done (d ∷ []) p.own (All-cons (λ (z : Done). z.action.worker ≡ i) d [] refl
          (All-nil (λ (z : Done). z.action.worker ≡ i)));
      alone = stands ∙ p.alone;
      last = may ∙ p.last;
      grants = tt;
    }
