use Rattle.genesis_maker.proofs.Made.{is_made}
use Rattle.genesis_maker.proofs.initialize_beacon_state_from_eth1.make_genesis.Goals as goal

pub returns-clause-made : goal.returns-clause-made
returns-clause-made c = (is_made c.made_from.result c.in_ok-start.start c.args.preset.now c.args.version c.args.eth1_block_hash c.args.time c.len-count.result c.args.deposits c.requires.preset
    (record { version_within = c.given_in_range.ensures.version; time_fits = c.ranges.time.fits; hash_within = c.given_in_range.ensures.hash; few = c.len-count.ensures.few })
    c.len-count.ensures.within c.in_ok-start.ensures c.len-count.ensures.len c.made_from.ensures).gives

pub returns-clause-overflow : goal.returns-clause-overflow
returns-clause-overflow c = (is_made c.made_from.result c.in_ok-start.start c.args.preset.now c.args.version c.args.eth1_block_hash c.args.time c.len-count.result c.args.deposits c.requires.preset
    (record { version_within = c.given_in_range.ensures.version; time_fits = c.ranges.time.fits; hash_within = c.given_in_range.ensures.hash; few = c.len-count.ensures.few })
    c.len-count.ensures.within c.in_ok-start.ensures c.len-count.ensures.len c.made_from.ensures).overflows

pub returns-clause-genesis : goal.returns-clause-genesis
returns-clause-genesis c = (is_made c.made_from.result c.in_ok-start.start c.args.preset.now c.args.version c.args.eth1_block_hash c.args.time c.len-count.result c.args.deposits c.requires.preset
    (record { version_within = c.given_in_range.ensures.version; time_fits = c.ranges.time.fits; hash_within = c.given_in_range.ensures.hash; few = c.len-count.ensures.few })
    c.len-count.ensures.within c.in_ok-start.ensures c.len-count.ensures.len c.made_from.ensures).genesis

pub returns-clause-preset : goal.returns-clause-preset
returns-clause-preset c = (is_made c.made_from.result c.in_ok-start.start c.args.preset.now c.args.version c.args.eth1_block_hash c.args.time c.len-count.result c.args.deposits c.requires.preset
    (record { version_within = c.given_in_range.ensures.version; time_fits = c.ranges.time.fits; hash_within = c.given_in_range.ensures.hash; few = c.len-count.ensures.few })
    c.len-count.ensures.within c.in_ok-start.ensures c.len-count.ensures.len c.made_from.ensures).preset

pub returns-clause-writing : goal.returns-clause-writing
returns-clause-writing c = (is_made c.made_from.result c.in_ok-start.start c.args.preset.now c.args.version c.args.eth1_block_hash c.args.time c.len-count.result c.args.deposits c.requires.preset
    (record { version_within = c.given_in_range.ensures.version; time_fits = c.ranges.time.fits; hash_within = c.given_in_range.ensures.hash; few = c.len-count.ensures.few })
    c.len-count.ensures.within c.in_ok-start.ensures c.len-count.ensures.len c.made_from.ensures).writing
