-- Each event that a store accepts.
use Rattle.safety_law.proofs.Followed.{event_followed, block_is_added}
use Rattle.safety_law.proofs.laws.store_follows_its_history.Goals as goal

pub returns-clause-follows : goal.returns-clause-follows
returns-clause-follows c config genesis history store new kind payload given event follows bytes is =
    event_followed config genesis history store new kind payload given event follows bytes is

pub returns-clause-adds : goal.returns-clause-adds
returns-clause-adds c config genesis history store new kind payload given event follows bytes is =
    block_is_added config genesis history store new kind payload given event follows bytes is
