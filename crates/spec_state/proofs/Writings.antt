-- A state within the limits has a writing.
use Rattle.std.proofs.Common.{◌≡◌, ℕ, List, Some, refl, sym, subst, ap, ◌∙◌}
use Rattle.ssz_codec.specs.Layout.{OffsetsFit, fixed_length}
use Rattle.ssz_codec.specs.Containers.{layout_of, parts_of}
use Rattle.ssz_codec.specs.Lawful.{IsBytes}
use Rattle.bc_preset.specs.declared.presets.Preset.{Preset}
use Rattle.spec_state.specs.declared.plain.PlainState.{PlainState}
use Rattle.spec_state.specs.States.{state_fields, state_codec}
use Rattle.spec_state.specs.Limits.{IsState, IsInRange}
use Rattle.spec_state.proofs.StateLaws.{state_lawful}
use Rattle.spec_state.proofs.Limits.{within_preset}
use Rattle.spec_state.specs.Writing.{ListFits, HasWriting}

previous_fits : (p : Preset) (s : PlainState) → (state_codec p).Within s → ListFits s.previous_epoch_attestations
unfolding state_fields state_codec ListFits
previous_fits p s within = within.0.0.0.0.0.0.1.2

current_fits : (p : Preset) (s : PlainState) → (state_codec p).Within s → ListFits s.current_epoch_attestations
unfolding state_fields state_codec ListFits
current_fits p s within = within.0.0.0.0.0.1.2

offsets_fit : (p : Preset) (s : PlainState) → (state_codec p).Within s → OffsetsFit (layout_of (state_fields p)) (parts_of (state_fields p) s) (fixed_length (layout_of (state_fields p)))
unfolding state_codec
offsets_fit p s within = within.1

pub within_fits : (p : Preset) (s : PlainState) → (state_codec p).Within s → HasWriting s
within_fits p s within = record {
  previous = previous_fits p s within;
  current = current_fits p s within;
  whole = subst (λ q. OffsetsFit (layout_of (state_fields q)) (parts_of (state_fields q) s) (fixed_length (layout_of (state_fields q)))) (sym (within_preset p s within)) (offsets_fit p s within);
}

pub read_has_writing : (p : Preset) (bytes : List ℕ) (s : PlainState) → IsBytes bytes → (state_codec p).deserialize bytes ≡ Some s → HasWriting s
read_has_writing p bytes s fits e = within_fits p s ((state_lawful p).sound bytes s fits e).0

-- and one that has a writing is one of the codec's
pub codec_within : (s : PlainState) → IsState s → IsInRange s → HasWriting s → (state_codec s.preset).Within s
unfolding state_fields state_codec ListFits
codec_within s is r fits = (
  (
    (
      (
        (
          (
            (
              (
                (
                  (
                    (
                      (
                        (
                          (
                            (
                              (
                                (
                                  (
                                    (
                                      (
                                        (
                                          (
                                            (tt, refl),
                                            r.genesis_time,
                                          ),
                                          r.genesis_validators_root,
                                        ),
                                        r.slot,
                                      ),
                                      r.fork,
                                    ),
                                    r.latest_block_header,
                                  ),
                                  (is.block_roots_len, r.block_roots),
                                ),
                                (is.state_roots_len, r.state_roots),
                              ),
                              (is.historical_roots_len, r.historical_roots),
                            ),
                            r.eth1_data,
                          ),
                          (is.eth1_data_votes_len, r.eth1_data_votes),
                        ),
                        r.eth1_deposit_index,
                      ),
                      (is.validators_len, r.validators),
                    ),
                    (is.balances_len, r.balances),
                  ),
                  (is.randao_mixes_len, r.randao_mixes),
                ),
                (is.slashings_len, r.slashings),
              ),
              (is.previous_epoch_attestations_len, r.previous_epoch_attestations, fits.previous),
            ),
            (is.current_epoch_attestations_len, r.current_epoch_attestations, fits.current),
          ),
          r.justification_bits,
        ),
        r.previous_justified_checkpoint,
      ),
      r.current_justified_checkpoint,
    ),
    r.finalized_checkpoint,
  ),
  fits.whole,
)

-- what is written of a state in range reads as this state
pub written_again : (s : PlainState) (bytes : List ℕ) → IsState s → IsInRange s → HasWriting s → bytes ≡ (state_codec s.preset).serialize s → (state_codec s.preset).deserialize bytes ≡ Some s
written_again s bytes is r fits e = ap (state_codec s.preset).deserialize e ∙ (state_lawful s.preset).complete s (codec_within s is r fits)
