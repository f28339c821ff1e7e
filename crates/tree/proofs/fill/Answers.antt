use Rattle.std.proofs.Common.{inl, inr, arith}
use Rattle.rules.specs.declared.Player.TheVariants.{House, Guest}
use Rattle.tree.proofs.Fills.{whole, blank_ready, filled, begun}
use Rattle.tree.specs.declared.TheConstants.{FEW_SLOTS}
use Rattle.tree.proofs.Measures.{size_is}
use Rattle.tree.proofs.fill.Goals as goal

pub written-requires-clause-room : goal.written-requires-clause-room
written-requires-clause-room c = let e = size_is c.args.game.sheet c.args.game.sound in omega (arith, e, c.requires.exact)

pub index-requires-clause-ours : goal.index-requires-clause-ours
index-requires-clause-ours c =
    let s = c.args.game.sheet in
    let h = c.args.game.sound in
    let r = c.if-game-le3.true in
    blank_ready s h House _ _ FEW_SLOTS (whole s h _ _ _ c.requires.exact c.written.ensures) c.requires.house (inl (c.if-game.true, omega arith))

pub index-requires-clause-theirs : goal.index-requires-clause-theirs
index-requires-clause-theirs c =
    let s = c.args.game.sheet in
    let h = c.args.game.sound in
    let r = c.if-game-le3.true in
    blank_ready s h Guest _ _ FEW_SLOTS (whole s h _ _ _ c.requires.exact c.written.ensures) c.requires.guest (inl (c.if-game.true, omega arith))

pub index-requires-else-game-le3-clause-ours : goal.index-requires-else-game-le3-clause-ours
index-requires-else-game-le3-clause-ours c =
    let s = c.args.game.sheet in
    let h = c.args.game.sound in
    let m = h.ranks.most in
    blank_ready s h House _ _ 40950 (whole s h _ _ _ c.requires.exact c.written.ensures) c.requires.house (inl (c.if-game.true, omega arith))

pub index-requires-else-game-le3-clause-theirs : goal.index-requires-else-game-le3-clause-theirs
index-requires-else-game-le3-clause-theirs c =
    let s = c.args.game.sheet in
    let h = c.args.game.sound in
    let m = h.ranks.most in
    blank_ready s h Guest _ _ 40950 (whole s h _ _ _ c.requires.exact c.written.ensures) c.requires.guest (inl (c.if-game.true, omega arith))

pub index-requires-else-game-clause-ours : goal.index-requires-else-game-clause-ours
index-requires-else-game-clause-ours c =
    let s = c.args.game.sheet in
    let h = c.args.game.sound in
    blank_ready s h House _ _ 195 (whole s h _ _ _ c.requires.exact c.written.ensures) c.requires.house (inr (c.if-game.false, omega arith))

pub index-requires-else-game-clause-theirs : goal.index-requires-else-game-clause-theirs
index-requires-else-game-clause-theirs c =
    let s = c.args.game.sheet in
    let h = c.args.game.sound in
    blank_ready s h Guest _ _ 195 (whole s h _ _ _ c.requires.exact c.written.ensures) c.requires.guest (inr (c.if-game.false, omega arith))

pub returns-then-game-le3 : goal.returns-then-game-le3
returns-then-game-le3 c =
    let s = c.args.game.sheet in
    let h = c.args.game.sound in
    let e = whole s h _ _ _ c.requires.exact c.written.ensures in
    record {
      nodes = filled s h c.written.new.nodes _ e c.index.ensures.nodes;
      house = begun s h House c.written.new.nodes _ _ e c.index.ensures.house;
      guest = begun s h Guest c.written.new.nodes _ _ e c.index.ensures.guest;
    }

pub returns-else-game-le3 : goal.returns-else-game-le3
returns-else-game-le3 c =
    let s = c.args.game.sheet in
    let h = c.args.game.sound in
    let e = whole s h _ _ _ c.requires.exact c.written.ensures in
    record {
      nodes = filled s h c.written.new.nodes _ e c.index-else-game-le3.ensures.nodes;
      house = begun s h House c.written.new.nodes _ _ e c.index-else-game-le3.ensures.house;
      guest = begun s h Guest c.written.new.nodes _ _ e c.index-else-game-le3.ensures.guest;
    }

pub returns-else-game : goal.returns-else-game
returns-else-game c =
    let s = c.args.game.sheet in
    let h = c.args.game.sound in
    let e = whole s h _ _ _ c.requires.exact c.written.ensures in
    record {
      nodes = filled s h c.written.new.nodes _ e c.index-else-game.ensures.nodes;
      house = begun s h House c.written.new.nodes _ _ e c.index-else-game.ensures.house;
      guest = begun s h Guest c.written.new.nodes _ _ e c.index-else-game.ensures.guest;
    }
