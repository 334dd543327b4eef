use Rattle.std.proofs.Common.{refl}
use Rattle.setting_order.proofs.Put.{put-fixed, put_one, put_two, put_end}
use Rattle.setting_order.proofs.put_setting.Goals as goal
use Rattle.setting_order.proofs.put_setting.Goals.{then-state-eq0+then-place-p, then-state-eq0+else-place-p, else-state-eq0}

pub loop-i-preserved : goal.loop-i-preserved
loop-i-preserved c =
    let big = c.requires.room in
    let w = c.loop-i.invariant in
    let l = c.loop-i-test.true in
    elim c.if-state-eq0.branch [
      | then-state-eq0+then-place-p u ↦ rw (u.out-is, u.p-is, u.place-is) (put_one _ _ _ big _ _ _ _ w l u.if-state-eq0.true u.if-place-p.true)
      | then-state-eq0+else-place-p u ↦ rw (u.out-is, u.p-is, u.place-is) (put_two _ _ _ big _ _ _ _ w l u.if-state-eq0.true u.if-place-p.false)
      | else-state-eq0 u ↦ rw (u.out-is, u.p-is, u.place-is) (put-fixed _ _ _ big _ _ _ _ w l _ refl u.if-state-eq0.false)
    ]

pub returns : goal.returns
returns c = put_end _ _ _ c.requires.room c.loop-i.invariant c.loop-i-test.false
