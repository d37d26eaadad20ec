use Rattle.std.proofs.Common.{ℕ, List, ap, ◌∙◌, ◌∷◌, refl}
use Rattle.std.proofs.lemmas.Result.{IfOk-weaker}
use Rattle.pg_ltl.specs.Mirrors.Nodes.{normal_at}
use Rattle.pg_satisfies_check.proofs.Covering.{covers_at, cover_top, cover_bottom, cover_both, cover_either, cover_next, cover_until, cover_release, of_two}
use Rattle.pg_satisfies_check.proofs.branch.take_apart.Goals as goal

abbrev front : ℕ → List ℕ → List ℕ
front x xs = x ∷ xs

pub returns-in-Top : goal.returns-in-Top
returns-in-Top c cert forms v e =
    cover_top c.args.steps.now cert forms v c.args.row.items c.args.place c.args.rest.items c.args.asks.items c.args.puts.items
    (e ∙ ap (normal_at forms) c.in-Top.is)

pub returns-in-Bottom : goal.returns-in-Bottom
returns-in-Bottom c cert forms v e =
    cover_bottom c.args.steps.now cert forms v c.args.row.items c.args.place c.args.rest.items c.args.asks.items c.args.puts.items
    (e ∙ ap (normal_at forms) c.in-Bottom.is)

pub returns-in_ok-todo-in-Both : goal.returns-in_ok-todo-in-Both
returns-in_ok-todo-in-Both c cert forms v e h =
    let rest = c.args.rest.items in
    let asks = c.args.asks.items in
    let puts = c.args.puts.items in
    let a = c.in-Both.a in
    let b = c.in-Both.b in
    cover_both c.args.steps.now cert forms v c.args.row.items c.args.place rest asks puts a b (e ∙ ap (normal_at forms) c.in-Both.is)
    (covers_at c.args.steps.now cert forms v c.args.row.items c.in_ok-todo-in-Both.todo.items asks puts (a ∷ b ∷ rest) asks puts
    (c.in_ok-todo-in-Both.ensures
    ∙ ap (front a) (c.deref-in-Both.ensures.value ∙ c.in_ok-behind-in-Both.ensures ∙ ap (front b) c.deref.ensures.value)) refl refl h)

pub returns-in_ok-more-in-Next : goal.returns-in_ok-more-in-Next
returns-in_ok-more-in-Next c cert forms v e h =
    let rest = c.args.rest.items in
    let asks = c.args.asks.items in
    let puts = c.args.puts.items in
    let a = c.in-Next.a in
    cover_next c.args.steps.now cert forms v c.args.row.items c.args.place rest asks puts a (e ∙ ap (normal_at forms) c.in-Next.is)
    (covers_at c.args.steps.now cert forms v c.args.row.items rest c.in_ok-more-in-Next.more.items puts rest (a ∷ asks) puts refl
    (c.in_ok-more-in-Next.ensures ∙ ap (front a) c.deref-in-Next.ensures.value) refl h)

pub returns-in_ok-copied-in-Either-2 : goal.returns-in_ok-copied-in-Either-2
returns-in_ok-copied-in-Either-2 c =
    IfOk-weaker c.two.result _ _ (λ p are cert forms v e.
    let s = c.args.steps.now in
    let row = c.args.row.items in
    let rest = c.args.rest.items in
    let asks = c.args.asks.items in
    let puts = c.args.puts.items in
    let place = c.args.place in
    let a = c.in-Either.a in
    let b = c.in-Either.b in
    let left = c.in_ok-left-in-Either.left.items in
    let right = c.in_ok-right-in-Either.right.items in
    let now = c.deref-in-Either-3.result.now in
    let off = c.deref-in-Either-4.result.now in
    let now_too = c.in_ok-copied-in-Either.field-0.items in
    let off_too = c.in_ok-copied-in-Either-2.field-0.items in
    of_two s cert forms v row left now off right now_too off_too row (place ∷ rest) asks puts p are
    (λ h k. cover_either s cert forms v row place rest asks puts a b (e ∙ ap (normal_at forms) c.in-Either.is)
    (covers_at s cert forms v row left now off (a ∷ rest) asks puts
    (c.in_ok-left-in-Either.ensures ∙ ap (front a) c.deref-in-Either.ensures.value) c.deref-in-Either-3.ensures.value
    c.deref-in-Either-4.ensures.value h)
    (covers_at s cert forms v row right now_too off_too (b ∷ rest) asks puts
    (c.in_ok-right-in-Either.ensures ∙ ap (front b) c.deref-in-Either-2.ensures.value)
    (c.in_ok-copied-in-Either.ensures ∙ c.deref-in-Either-5.ensures.value)
    (c.in_ok-copied-in-Either-2.ensures ∙ c.deref-in-Either-6.ensures.value) k))) c.two.ensures

pub returns-in_ok-off-in-Until : goal.returns-in_ok-off-in-Until
returns-in_ok-off-in-Until c =
    IfOk-weaker c.two-in-Until.result _ _ (λ p are cert forms v e.
    let s = c.args.steps.now in
    let row = c.args.row.items in
    let rest = c.args.rest.items in
    let asks = c.args.asks.items in
    let puts = c.args.puts.items in
    let place = c.args.place in
    let a = c.in-Until.a in
    let b = c.in-Until.b in
    let first = c.in_ok-now-in-Until.now.items in
    let later = c.in_ok-later-in-Until.later.items in
    let more = c.in_ok-more-in-Until.more.items in
    let more_off = c.in_ok-off-in-Until.off.items in
    let now = c.deref-in-Until-5.result.now in
    let off = c.deref-in-Until-6.result.now in
    of_two s cert forms v row first now off later more more_off row (place ∷ rest) asks puts p are
    (λ h k. cover_until s cert forms v row place rest asks puts a b (e ∙ ap (normal_at forms) c.in-Until.is)
    (covers_at s cert forms v row first now off (b ∷ rest) asks puts
    (c.in_ok-now-in-Until.ensures ∙ ap (front b) c.deref-in-Until.ensures.value) c.deref-in-Until-5.ensures.value
    c.deref-in-Until-6.ensures.value h)
    (covers_at s cert forms v row later more more_off (a ∷ rest) (place ∷ asks) (place ∷ puts)
    (c.in_ok-later-in-Until.ensures ∙ ap (front a) c.deref-in-Until-2.ensures.value)
    (c.in_ok-more-in-Until.ensures ∙ ap (front place) c.deref-in-Until-3.ensures.value)
    (c.in_ok-off-in-Until.ensures ∙ ap (front place) c.deref-in-Until-4.ensures.value) k))) c.two-in-Until.ensures

pub returns-in_ok-copied-in-Release : goal.returns-in_ok-copied-in-Release
returns-in_ok-copied-in-Release c =
    IfOk-weaker c.two-in-Release.result _ _ (λ p are cert forms v e.
    let s = c.args.steps.now in
    let row = c.args.row.items in
    let rest = c.args.rest.items in
    let asks = c.args.asks.items in
    let puts = c.args.puts.items in
    let place = c.args.place in
    let a = c.in-Release.a in
    let b = c.in-Release.b in
    let ends = c.in_ok-ends-in-Release.ends.items in
    let stays = c.in_ok-stays-in-Release.stays.items in
    let more = c.in_ok-more-in-Release.more.items in
    let off_too = c.in_ok-copied-in-Release.field-0.items in
    let now = c.deref-in-Release-5.result.now in
    let off = c.deref-in-Release-6.result.now in
    of_two s cert forms v row ends now off stays more off_too row (place ∷ rest) asks puts p are
    (λ h k. cover_release s cert forms v row place rest asks puts a b (e ∙ ap (normal_at forms) c.in-Release.is)
    (covers_at s cert forms v row ends now off (b ∷ a ∷ rest) asks puts
    (c.in_ok-ends-in-Release.ensures
    ∙ ap (front b) (c.deref-in-Release-2.ensures.value ∙ c.in_ok-behind-in-Release.ensures ∙ ap (front a) c.deref-in-Release.ensures.value))
    c.deref-in-Release-5.ensures.value c.deref-in-Release-6.ensures.value h)
    (covers_at s cert forms v row stays more off_too (b ∷ rest) (place ∷ asks) puts
    (c.in_ok-stays-in-Release.ensures ∙ ap (front b) c.deref-in-Release-3.ensures.value)
    (c.in_ok-more-in-Release.ensures ∙ ap (front place) c.deref-in-Release-4.ensures.value)
    (c.in_ok-copied-in-Release.ensures ∙ c.deref-in-Release-7.ensures.value) k))) c.two-in-Release.ensures

pub returns-in-Literal : goal.returns-in-Literal
returns-in-Literal c cert forms v e =
    c.needed.ensures cert forms v c.args.place (e ∙ ap (normal_at forms) c.in-Literal.is)
