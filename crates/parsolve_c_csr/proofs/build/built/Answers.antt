use Rattle.parsolve_c_csr.specs.Games.{arrays_of}
use Rattle.parsolve_c_csr.proofs.Built.{ok_of, err_of, finished, one_more, all_lines}
use Rattle.parsolve_c_csr.proofs.build.built.Goals as goal

pub loop-v-preserved : goal.loop-v-preserved
loop-v-preserved c =
    one_more (arrays_of c.args.arrays.now) c.loop-v.builder c.add_vertex.new.builder c.loop-v.v c.loop-v.invariant
    c.in_ok-add_vertex.ensures.added

pub returns-clause-game : goal.returns-clause-game
returns-clause-game c =
    let a = arrays_of c.args.arrays.now in
    let all = all_lines a c.loop-v.builder c.loop-v.v c.loop-v.invariant c.loop-v.auto.v-end c.loop-v-test.false in
    ok_of _ _ c.finish.result (finished a c.loop-v.builder c.finish.result c.requires all c.finish.ensures.only)

pub returns-clause-fault : goal.returns-clause-fault
returns-clause-fault c =
    let a = arrays_of c.args.arrays.now in
    let all = all_lines a c.loop-v.builder c.loop-v.v c.loop-v.invariant c.loop-v.auto.v-end c.loop-v-test.false in
    err_of _ _ c.finish.result (finished a c.loop-v.builder c.finish.result c.requires all c.finish.ensures.only)
