use Rattle.std.proofs.Common.{◌≡◌, ◌++◌, ◌∷◌, [], refl, subst}
use Rattle.std.specs.Prelude.{None, OnOk}
use Rattle.pg_arena.specs.Games.{GameVertex}
use Rattle.pg_arena.specs.Lines.{add_fault}
use Rattle.parsolve_c_csr.specs.Games.{arrays_of, vertex_of}
use Rattle.parsolve_c_csr.proofs.Built.{may_follow, memory_only, line_is}
use Rattle.parsolve_c_csr.proofs.build.add_vertex.Goals as goal

pub returns-clause-added : goal.returns-clause-added
returns-clause-added c =
    let a = arrays_of c.args.arrays.now in
    let e = line_is a c.args.v _ _ _ refl c.player_of-owner.ensures refl in
    subst (λ (x : GameVertex). OnOk c.add.result (c.add.new.self ≡ c.args.builder.now ++ x ∷ [])) e c.add.ensures.ok

pub returns-clause-fault : goal.returns-clause-fault
returns-clause-fault c =
    let a = arrays_of c.args.arrays.now in
    let v = c.args.v in
    let e = line_is a v _ _ _ refl c.player_of-owner.ensures refl in
    let m = may_follow a v c.requires.spelled c.requires.within in
    let none : (line : GameVertex) → line ≡ vertex_of a v → add_fault c.args.builder.now line ≡ None =
    λ line s. rw (c.requires.before, s) m in
    memory_only c.add.result _ (none _ e) c.add.ensures.answer
