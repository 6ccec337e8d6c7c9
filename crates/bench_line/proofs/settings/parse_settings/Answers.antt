use native.Mathlib.Omega.{arith}
use mathlib.Core.Path.{◌≡◌, refl, subst, ◌∙◌}
use Prim.Native.Nat.{ℕ, suc, ◌+◌, ◌-◌}
use lib.ListN.{drop}
use Rattle.bench_line.specs.Settings.{settings_from, settings_in}
use Rattle.link.specs.Names.{timers}
use Rattle.bench_line.proofs.SettingsLaws.{settings-more, settings-stop, settings-within, settings-end, settings-left}
use Rattle.bench_line.proofs.settings.parse_settings.Goals as goal

pub loop-setting-init : goal.loop-setting-init
unfolding settings_in
loop-setting-init c = (omega arith, refl)

pub returns-in_err-n : goal.returns-in_err-n
returns-in_err-n c = let s = c.args.s.now in
    let l = c.loop-setting in
    let k = timers - (l.setting-index + 1) in
    let q : timers - l.setting-index ≡ suc k = omega arith in
    c.from_residual.ensures ∙ settings-stop k l.setting-index l.setting-items s l.at c.in_err-n.ensures
    ∙ subst (λ (z : ℕ). settings_from z l.setting-index l.setting-items (drop l.at s) ≡ settings_in s) q l.invariant.1

pub overflow_add-at : goal.overflow_add-at
overflow_add-at c = let s = c.args.s.now in
    let l = c.loop-setting in
    omega (arith, settings-within 0 l.setting-index l.setting-items s l.at c.in_ok-n.n c.in_ok-n.ensures l.invariant.0)

pub loop-setting-preserved : goal.loop-setting-preserved
loop-setting-preserved c = let s = c.args.s.now in
    let l = c.loop-setting in
    let k = timers - (l.setting-index + 1) in
    let q : timers - l.setting-index ≡ suc k = omega arith in (
      settings-within k l.setting-index l.setting-items s l.at c.in_ok-n.n c.in_ok-n.ensures l.invariant.0,
      settings-more k l.setting-index l.setting-items s l.at c.in_ok-n.n c.in_ok-n.ensures
          ∙ subst (λ (z : ℕ). settings_from z l.setting-index l.setting-items (drop l.at s) ≡ settings_in s) q l.invariant.1,
    )

pub returns-then-at-s : goal.returns-then-at-s
returns-then-at-s c = let s = c.args.s.now in
    let l = c.loop-setting in
    settings-end (timers - l.setting-index) l.setting-index l.setting-items s l.at (omega arith) c.if-at-s.true ∙ l.invariant.1

pub returns-else-at-s : goal.returns-else-at-s
returns-else-at-s c = let s = c.args.s.now in
    let l = c.loop-setting in
    settings-left (timers - l.setting-index) l.setting-index l.setting-items s l.at (omega arith) l.invariant.0 c.if-at-s.false ∙ l.invariant.1
