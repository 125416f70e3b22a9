use Rattle.std.proofs.Common.{arith}
use Rattle.hl_line.proofs.Arms.{if_none, no_arm, alloc_arm, write_arm, read_arm, refresh_arm, look_arm, take_arm, done_arm, flush_take_arm, flush_done_arm, clean_take_arm, clean_done_arm}
use Rattle.hl_line.proofs.usual.usual_step.Goals as goal

pub returns-in-97-eq108-default-clause-none : goal.returns-in-97-eq108-default-clause-none
returns-in-97-eq108-default-clause-none c =
    let arm = c.in-97-eq108-default in
    if_none c.allocate.result _ _ (λ none many. alloc_arm c.args.bytes.now arm.is-0 arm.is-1 none) c.allocate.ensures.none

pub returns-in-119-eq105-default-clause-none : goal.returns-in-119-eq105-default-clause-none
returns-in-119-eq105-default-clause-none c =
    let arm = c.in-119-eq105-default in
    if_none c.write.result _ _ (λ none many. write_arm c.args.bytes.now arm.is-0 arm.is-1 none) c.write.ensures.none

pub returns-in-114-eq97-default-clause-none : goal.returns-in-114-eq97-default-clause-none
returns-in-114-eq97-default-clause-none c =
    let arm = c.in-114-eq97-default in
    if_none c.read.result _ _ (λ none many. read_arm c.args.bytes.now arm.is-0 arm.is-1 none) c.read.ensures.none

pub returns-in-114-eq102-default-clause-none : goal.returns-in-114-eq102-default-clause-none
returns-in-114-eq102-default-clause-none c =
    let arm = c.in-114-eq102-default in
    if_none c.refresh.result _ _ (λ none many. refresh_arm c.args.bytes.now arm.is-0 arm.is-1 none) c.refresh.ensures.none

pub returns-in-108-eq111-default-clause-none : goal.returns-in-108-eq111-default-clause-none
returns-in-108-eq111-default-clause-none c =
    let arm = c.in-108-eq111-default in
    if_none c.look.result _ _ (λ none many. look_arm c.args.bytes.now arm.is-0 arm.is-1 none) c.look.ensures.none

pub returns-in-116-eq107-default-clause-none : goal.returns-in-116-eq107-default-clause-none
returns-in-116-eq107-default-clause-none c =
    let arm = c.in-116-eq107-default in
    if_none c.take.result _ _ (λ none many. take_arm c.args.bytes.now arm.is-0 arm.is-1 none) c.take.ensures.none

pub returns-in-100-eq110-default-clause-none : goal.returns-in-100-eq110-default-clause-none
returns-in-100-eq110-default-clause-none c =
    let arm = c.in-100-eq110-default in
    if_none c.done.result _ _ (λ none many. done_arm c.args.bytes.now arm.is-0 arm.is-1 none) c.done.ensures.none

pub returns-in-102-eq117-eq116-clause-none : goal.returns-in-102-eq117-eq116-clause-none
returns-in-102-eq117-eq116-clause-none c =
    let arm = c.in-102-eq117-eq116 in
    if_none c.flush_take.result _ _ (λ none many. flush_take_arm c.args.bytes.now arm.is-0 arm.is-1 arm.is-2 none) c.flush_take.ensures.none

pub returns-in-102-eq117-eq100-clause-none : goal.returns-in-102-eq117-eq100-clause-none
returns-in-102-eq117-eq100-clause-none c =
    let arm = c.in-102-eq117-eq100 in
    if_none c.flush_done.result _ _ (λ none many. flush_done_arm c.args.bytes.now arm.is-0 arm.is-1 arm.is-2 none) c.flush_done.ensures.none

pub returns-in-99-eq101-eq116-clause-none : goal.returns-in-99-eq101-eq116-clause-none
returns-in-99-eq101-eq116-clause-none c =
    let arm = c.in-99-eq101-eq116 in
    if_none c.clean_take.result _ _ (λ none many. clean_take_arm c.args.bytes.now arm.is-0 arm.is-1 arm.is-2 none) c.clean_take.ensures.none

pub returns-in-99-eq101-eq100-clause-none : goal.returns-in-99-eq101-eq100-clause-none
returns-in-99-eq101-eq100-clause-none c =
    let arm = c.in-99-eq101-eq100 in
    if_none c.clean_done.result _ _ (λ none many. clean_done_arm c.args.bytes.now arm.is-0 arm.is-1 arm.is-2 none) c.clean_done.ensures.none

pub returns-in_default-clause-none : goal.returns-in_default-clause-none
returns-in_default-clause-none c many =
    no_arm c.args.bytes.now record {
      alloc = λ p q. grind arith;
      write = λ p q. grind arith;
      read = λ p q. grind arith;
      refresh = λ p q. grind arith;
      look = λ p q. grind arith;
      take = λ p q. grind arith;
      done = λ p q. grind arith;
      flush_take = λ p q r. grind arith;
      flush_done = λ p q r. grind arith;
      clean_take = λ p q r. grind arith;
      clean_done = λ p q r. grind arith;
    }
